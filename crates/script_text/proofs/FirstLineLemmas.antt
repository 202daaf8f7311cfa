-- The first line, and those behind it.
use Rattle.std.proofs.Common.{◌≡◌, ◌≢◌, ℕ, ◌+◌, ◌≤◌, ◌==◌, ◌||◌, Bool, true, false, not, cond, nat_lt, length}
use Rattle.std.proofs.Common.{slice_index, List, [], ◌∷◌, Option, Some, None, Result, Ok, Err, refl, sym, ap, ◌∙◌}
use Rattle.std.proofs.Common.{if◌then◌else◌, arith}
use Rattle.std.specs.List.{list_all}
use Rattle.std.specs.Str.{bytes_eq}
use Rattle.std.proofs.lemmas.Bool.{ne_eqb}
use Rattle.frame_gate.specs.declared.frame.FrameFault.{FrameFault}
use Rattle.frame_gate.specs.Frame.{fault_of}
use Rattle.media_items.specs.Frame.{SourceFrame}
use Rattle.sender_feedback.specs.Upstream.{Asker}
use Rattle.desk_text.specs.declared.fault.Fault.{Fault}
use Rattle.desk_text.specs.declared.fault.Fault.TheVariants.{LineTooLong, BadByte, UnknownWord, BadNumber}
use Rattle.desk_text.specs.declared.value.Value.{Value}
use Rattle.desk_text.specs.Lines.{limit_of, is_printable}
use Rattle.desk_text.specs.Numbers.{decimal_of}
use Rattle.desk_text.specs.Words.{◌>>=◌, words_of, word_at, none_left, value_or}
use Rattle.desk_text.specs.Values.{values_of, number_at, address_at}
use Rattle.desk_text.specs.Calls.{call_of}
use Rattle.desk_text.proofs.ValueLaws.{bind_ok}
use Rattle.script_text.specs.declared.name.LineKind.{LineKind}
use Rattle.script_text.specs.declared.name.LineKind.TheVariants as kinds
use Rattle.script_text.specs.Requests.{Request, Nothing, Begin, Desk, Item, Rx, Wait, Report, Show, line_kind_of}
use Rattle.script_text.specs.Requests.{front_of, some_packets, sighted, framed, frame_of, some_octets, rx_of}
use Rattle.script_text.specs.Requests.{request_with, words_request, line_request}
use Rattle.script_text.specs.ItemLines.{later_request, request_of}
use Rattle.script_text.specs.FirstLine.{bridge_word, asker_of, renews_of, bridge_of, first_request, words_request_at}
use Rattle.script_text.specs.FirstLine.{request_at}
use Rattle.script_text.specs.Decodings.{Decoding, DecodesRequest}
use Rattle.script_text.proofs.ItemLemmas.{not_item}

-- what is read of a line that is too long, has a bad octet, or asks for nothing
abbrev pub read_by : (long bad empty : Bool) → Result Request (ℕ × Fault) → Result Request (ℕ × Fault)
read_by long bad empty read =
    if long then Err (0, LineTooLong) else if bad then Err (0, BadByte) else if empty then Ok Nothing else read

-- ---- what is heard

hears_then : {A : Type 0} (decoding : Decoding) (r : Result A (ℕ × Fault)) (f : A → Result Request (ℕ × Fault))
    → ((x : A) → DecodesRequest decoding (f x)) → DecodesRequest decoding (r >>= f)
hears_then decoding (Ok x) f h = h x
hears_then decoding (Err e) f h = tt

hears_bridge : (decoding : Decoding) (words : List (List ℕ)) → DecodesRequest decoding (bridge_of words)
unfolding bridge_of
hears_bridge decoding words =
    hears_then decoding (word_at 2 words) _
    (λ word. hears_then decoding (value_or 2 BadNumber (decimal_of 4294967295 word.0)) _ (λ ssrc.
    hears_then decoding (word_at 3 word.1) _ (λ name.
    hears_then decoding (asker_of ssrc name.0) _ (λ who. hears_then decoding (renews_of name.1) _ (λ renews. tt)))))

hears_either : (decoding : Decoding) (b : Bool) (words : List (List ℕ)) (other : Result Request (ℕ × Fault))
    → DecodesRequest decoding other → DecodesRequest decoding (if b then bridge_of words else other)
hears_either decoding true words other h = hears_bridge decoding words
hears_either decoding false words other h = h

hears_first : (decoding : Decoding) (words : List (List ℕ)) → DecodesRequest decoding (later_request words)
    → DecodesRequest decoding (first_request words)
unfolding first_request
hears_first decoding [] h = h
hears_first decoding (word ∷ words) h =
    hears_either decoding (bytes_eq word bridge_word) words (later_request (word ∷ words)) h

hears_words : (decoding : Decoding) (is_first : Bool) (words : List (List ℕ))
    → DecodesRequest decoding (later_request words)
    → DecodesRequest decoding (if is_first then first_request words else later_request words)
hears_words decoding true words h = hears_first decoding words h
hears_words decoding false words h = h

hears_read : (decoding : Decoding) (long bad empty : Bool) (read other : Result Request (ℕ × Fault))
    → (DecodesRequest decoding read → DecodesRequest decoding other)
    → DecodesRequest decoding (read_by long bad empty read) → DecodesRequest decoding (read_by long bad empty other)
hears_read decoding true bad empty read other f h = tt
hears_read decoding false true empty read other f h = tt
hears_read decoding false false true read other f h = tt
hears_read decoding false false false read other f h = f h

-- a line that is heard as a later one is heard as the first one too
pub hears_at : (decoding : Decoding) (number : ℕ) (line : List ℕ) → DecodesRequest decoding (request_of line)
    → DecodesRequest decoding (request_at number line)
unfolding line_request
hears_at decoding number line h =
    let words = words_of line in
    hears_read decoding (nat_lt (limit_of line) (length line)) (not (list_all is_printable line))
    (length line == 0 || slice_index line 0 == 35) (later_request words) (words_request_at number words)
    (hears_words decoding (number == 1) words) h

-- ---- only the first line says who the bridge is

never_begins : (kind : LineKind) (vs : List Value) (words : List (List ℕ)) (who : Asker) (renews : Bool)
    → request_with kind vs words ≡ Ok (Begin who renews) → ⊥
unfolding frame_of rx_of
never_begins kinds.Desk vs words who renews e = let c = bind_ok (call_of 2 words) _ (Begin who renews) e in absurd cc
never_begins kinds.Tick vs words who renews e =
    let none = bind_ok (none_left 3 words) _ (Begin who renews) e in absurd cc
never_begins kinds.Report vs words who renews e =
    let none = bind_ok (none_left 3 words) _ (Begin who renews) e in absurd cc
never_begins kinds.Show vs words who renews e =
    let none = bind_ok (none_left 2 words) _ (Begin who renews) e in absurd cc
never_begins kinds.Wait vs words who renews e =
    let none = bind_ok (none_left 5 words) _ (Begin who renews) e in absurd cc
never_begins kinds.Rx vs words who renews e =
    let w = bind_ok (word_at 4 words) _ (Begin who renews) e in
    let o = bind_ok (some_octets 4 w.0.0) _ (Begin who renews) w.2 in
    let n = bind_ok (none_left 5 w.0.1) _ (Begin who renews) o.2 in
    absurd cc
never_begins kinds.Frame vs words who renews e =
    let p = bind_ok (some_packets 7 words) _ (Begin who renews) e in
    never (sighted vs p.0) (fault_of p.0) p.2
  where
    never : (sighting : SourceFrame) (fault : Option FrameFault) {P : Type 0}
        → framed 7 sighting fault ≡ Ok (Begin who renews) → P
    never sighting None e = absurd cc
    never sighting (Some fault) e = absurd cc

words_never_begin : (words : List (List ℕ)) (who : Asker) (renews : Bool)
    → words_request words ≡ Ok (Begin who renews) → ⊥
unfolding words_request
words_never_begin words who renews e =
    let w = bind_ok (word_at 1 words) _ (Begin who renews) e in
    let k = bind_ok (value_or 1 UnknownWord (line_kind_of w.0.0)) _ (Begin who renews) w.2 in
    let r = bind_ok (values_of 2 (front_of k.0) w.0.1) _ (Begin who renews) k.2 in
    never_begins k.0 r.0.0 r.0.1 who renews r.2

pub later_words_never_begin : (words : List (List ℕ)) (who : Asker) (renews : Bool)
    → later_request words ≡ Ok (Begin who renews) → ⊥
later_words_never_begin words who renews e =
    words_never_begin words who renews (not_item words (Begin who renews) (λ h. h) e)

pub begins_by : (long bad empty : Bool) (read : Result Request (ℕ × Fault)) (who : Asker) (renews : Bool)
    → read_by long bad empty read ≡ Ok (Begin who renews) → read ≡ Ok (Begin who renews)
begins_by true bad empty read who renews e = absurd cc
begins_by false true empty read who renews e = absurd cc
begins_by false false true read who renews e = absurd cc
begins_by false false false read who renews e = e

pub later_never_begins : (number : ℕ) (line : List ℕ) (who : Asker) (renews : Bool) → (number == 1) ≡ false
    → request_at number line ≡ Ok (Begin who renews) → ⊥
unfolding line_request
later_never_begins number line who renews later e =
    let words = words_of line in
    let asked =
    begins_by (nat_lt (limit_of line) (length line)) (not (list_all is_printable line))
    (length line == 0 || slice_index line 0 == 35) (words_request_at number words) who renews e in
    later_words_never_begin words who renews
    (sym (ap (λ (b : Bool). if b then first_request words else later_request words) later) ∙ asked)
