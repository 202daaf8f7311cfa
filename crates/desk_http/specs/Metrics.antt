-- What a bridge counts, in the text format of Prometheus, version 0.0.4 (own; the format is that of
-- https://prometheus.io/docs/instrumenting/exposition_formats).
use Rattle.std.specs.Prelude.{ℕ, ◌==◌, Bool, true, false, if◌then◌else◌, List, [], ◌∷◌, ◌++◌, codes, length}
use Rattle.std.specs.Prelude.{Option, Some, None}
use Rattle.std.specs.Borrow.{Bor}
use Rattle.std.specs.List.{flat_map}
use Rattle.std.specs.Str.{bytes_eq}
use Rattle.json.specs.Word.{after_number}
use Rattle.desk_http.specs.declared.labelling.Label.{Label}
use Rattle.desk_http.specs.declared.labelling.Labels.{Labels}
use Rattle.desk_http.specs.declared.labelling.Labels.TheVariants as labels
use Rattle.desk_http.specs.declared.metrics.Unit.{Unit}
use Rattle.desk_http.specs.declared.metrics.Unit.TheVariants as units
use Rattle.desk_http.specs.declared.metrics.Family.{Family}
use Rattle.desk_http.specs.Readings.{words_of, leading_word, found}
use Rattle.desk_http.specs.ZeroLines.{whole_lines}

-- nothing is left
abbrev pub is_ended : Option (List ℕ) → Bool
is_ended None = false
is_ended (Some []) = true
is_ended (Some (octet ∷ octets)) = false

-- the word is a number as JSON has it (RFC 8259 section 6), which the format takes, too
abbrev pub is_number : List ℕ → Bool
is_number word = is_ended (after_number word)

-- what stands in a label's value for an octet: a backslash (92), a double quote (34) and an LF (10) are escaped
abbrev pub escape_octet : ℕ → List ℕ
escape_octet octet =
    if octet == 92 then codes "\\\\" else if octet == 34 then codes "\\\"" else if octet == 10 then codes "\\n"
    else octet ∷ []

-- a text as the value of a label
abbrev pub escaped : List ℕ → List ℕ
escaped text = flat_map escape_octet text

-- a text, or the empty one
abbrev pub text_or_empty : Option (List ℕ) → List ℕ
text_or_empty None = []
text_or_empty (Some text) = text

-- texts behind one another
abbrev pub texts_behind : List (List ℕ) → List ℕ
texts_behind texts = flat_map (λ text. text) texts

-- the lines before the samples of a family: what it is, and its type. A family without a help goes on with the one
-- before it
abbrev pub heading : Family → List ℕ
heading family =
    if length family.help.now == 0 then []
    else texts_behind (codes "# HELP " ∷ family.name.now ∷ codes " " ∷ family.help.now ∷ codes "\n# TYPE "
    ∷ family.name.now ∷ codes " " ∷ family.kind.now ∷ codes "\n" ∷ [])

-- a label with its value
abbrev pub label_text : List ℕ → List (List ℕ) → Label → List ℕ
label_text line words label =
    texts_behind (label.name.now ∷ codes "=\"" ∷ escaped (text_or_empty (found label.place line words))
    ∷ codes "\"" ∷ [])

-- the labels of a sample
abbrev pub labels_text : List ℕ → List (List ℕ) → Labels → List ℕ
labels_text line words labels.Nothing = []
labels_text line words (labels.One label) = texts_behind (codes "{" ∷ label_text line words label ∷ codes "}" ∷ [])
labels_text line words (labels.Two first second) =
    texts_behind (codes "{" ∷ label_text line words first ∷ codes "," ∷ label_text line words second ∷ codes "}" ∷ [])

-- what stands behind a number: a thousandth is `e-3`
abbrev pub exponent : Unit → List ℕ
exponent units.One = []
exponent units.Thousandth = codes "e-3"

-- the sample of a line with these words, if this value is a number
abbrev pub sample_of : Family → List ℕ → List (List ℕ) → Option (List ℕ) → List ℕ
sample_of family line words None = []
sample_of family line words (Some value) =
    if is_number value
    then texts_behind (family.name.now ∷ labels_text line words family.labels ∷ codes " " ∷ value ∷ exponent family.unit
    ∷ codes "\n" ∷ [])
    else []

-- the sample of a line, if the line is of the family and has its value
abbrev pub sample : Family → List ℕ → List ℕ
sample family line =
    if bytes_eq (leading_word line) family.line.now
    then sample_of family line (words_of line) (found family.value line (words_of line)) else []

-- a family: its heading, and a sample of each line that has one
abbrev pub family_text : List (List ℕ) → Family → List ℕ
family_text lines family = heading family ++ flat_map (sample family) lines

-- families, one after another
abbrev pub families_text : List (List ℕ) → List Family → List ℕ
families_text lines families = flat_map (family_text lines) families

-- all families, one after another
abbrev pub metrics_text : List (Bor (List Family)) → List ℕ → List ℕ
metrics_text tables text = flat_map (λ families. families_text (whole_lines text) families.now) tables
