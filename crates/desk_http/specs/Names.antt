-- The names that operators give to rooms, members and sources (own; a JSON text is that of RFC 8259).
use Rattle.std.specs.Prelude.{◌≡◌, ℕ, Bool, true, false, ◌&&◌, nat_le, List, ◌++◌, length, take, drop, codes, Option}
use Rattle.std.specs.Prelude.{Some, None}
use Rattle.std.specs.Fmt.{decimal}
use Rattle.std.specs.Str.{IsUtf8, bytes_eq}
use Rattle.json.specs.Json.{Json, null, boolean, number, string, array, object, Members, no_members, member, document}
use Rattle.desk_http.specs.declared.naming.Names.{Names}
use Rattle.desk_http.specs.declared.naming.NamesOutcome.{NamesOutcome}
use Rattle.desk_http.specs.declared.naming.NamesOutcome.TheVariants as outcomes

-- the most octets of a name: 200 characters of UTF-8 fit (RFC 3629 section 3)
abbrev pub longest_name : ℕ
longest_name = 800

-- the value is a text that is no longer than that
abbrev pub is_name : Json → Bool
is_name null = false
is_name (boolean b) = false
is_name (number text) = false
is_name (string text) = nat_le (length text) longest_name
is_name (array values) = false
is_name (object named) = false

-- each member of the object is a name
abbrev pub are_names : Members → Bool
are_names no_members = true
are_names (member key value rest) = is_name value && are_names rest

-- the value is an object of names
abbrev pub holds_names : Json → Bool
holds_names null = false
holds_names (boolean b) = false
holds_names (number text) = false
holds_names (string text) = false
holds_names (array values) = false
holds_names (object named) = are_names named

-- the value is there, and an object of names
abbrev pub has_names : Option Json → Bool
has_names None = false
has_names (Some value) = holds_names value

-- the text is UTF-8, and JSON of an object of names
pub record IsNamesText (text : List ℕ) : Type 0 where
  pub encoded : IsUtf8 text
  pub named : has_names (document text) ≡ true

-- the first line of names of this version
abbrev pub heading : ℕ → List ℕ
heading version = codes "names " ++ decimal version ++ codes "\n"

-- the names after their heading, as they are sent and as a change has them
abbrev pub names_body : Names → List ℕ
names_body names = heading names.version ++ names.text.items

-- the line changes the names of this version
abbrev pub is_change_of : ℕ → List ℕ → Bool
is_change_of version line =
    nat_le (length (heading version)) (length line) && bytes_eq (take (length (heading version)) line) (heading version)

-- the new names of such a line
abbrev pub changed_text : ℕ → List ℕ → List ℕ
changed_text version line = drop (length (heading version)) line

-- the outcome of a change with this text: it has no names, or these
abbrev pub IsChange : List ℕ → NamesOutcome → Type 0
IsChange text outcomes.Shown = ⊥
IsChange text outcomes.Newer = ⊥
IsChange text outcomes.NoNames = IsNamesText text → ⊥
IsChange text (outcomes.New names) = (names.items ≡ text) × IsNamesText text

-- the outcome of a line about names: it asks for them, changes an older version, has no names, or has new ones
abbrev pub IsValidated : Names → List ℕ → NamesOutcome → Type 0
IsValidated names line outcomes.Shown = bytes_eq line (codes "names") ≡ true
IsValidated names line outcomes.Newer =
    (bytes_eq line (codes "names") ≡ false) × (is_change_of names.version line ≡ false)
IsValidated names line outcomes.NoNames =
    (bytes_eq line (codes "names") ≡ false) × (is_change_of names.version line ≡ true)
    × IsChange (changed_text names.version line) outcomes.NoNames
IsValidated names line (outcomes.New text) =
    (bytes_eq line (codes "names") ≡ false) × (is_change_of names.version line ≡ true)
    × IsChange (changed_text names.version line) (outcomes.New text)
