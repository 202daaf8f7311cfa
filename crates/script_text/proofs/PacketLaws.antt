-- What is printed of a packet reads back.
use Rattle.std.proofs.Common.{◌≡◌, ℕ, ℤ, ◌+◌, ◌*◌, Option, Some, None, Result, Err, nat_lt, inl, inr, subst, sym, zero}
use Rattle.std.proofs.Common.{suc, pos, negsuc, ◌/◌, ◌%◌, ◌<◌, ◌≤◌, ◌^◌, List, [], ◌∷◌, ◌++◌, get_or, Ok, refl, ap, ◌∙◌}
use Rattle.std.proofs.Common.{arith, eqb, Bool, true, false, not, ◌&&◌, append_assoc, codes}
use Rattle.std.specs.List.{All, list_all, slice_split}
use Rattle.std.specs.Fmt.{decimal, signed_decimal}
use Rattle.std.proofs.lemmas.List.Elements.{All-cons}
use Rattle.std.proofs.lemmas.List.Splits.{slice_split_at, slice_split_none}
use Rattle.std.specs.Char.{to_ascii_lowercase}
use Rattle.std.specs.Str.{str_to_ascii_lowercase}
use Rattle.std.specs.List.{join_with_byte}
use Rattle.std.proofs.lemmas.Bool.{cases_lt, eqb-true, ltb-true}
use Rattle.std.proofs.lemmas.List.Splits.{join_with_byte-slice_split}
use Rattle.hex.specs.declared.error.FromHexError.{FromHexError}
use Rattle.hex.specs.Hex.{◌>>=◌, IsBytes, encode_lower, encode_with, lower_digits, decode_of, decode_pairs, pair_value}
use Rattle.hex.specs.Hex.{value_at, digit_or_error, hex_digit_value}
use Rattle.hex.proofs.HexLemmas.{decode_of-encode_lower, decode_of-even, decode_of-ok}
use Rattle.desk_text.specs.declared.fault.Fault.TheVariants.{BadNumber}
use Rattle.desk_text.specs.Words.{value_or}
use Rattle.frame_gate.specs.Frame.{SourcePacket}
use Rattle.desk_text.specs.Numbers.{FitsExt, decimal_of, ext_of}
use Rattle.desk_text.proofs.NumberLemmas.{read, spelled}
use Rattle.desk_text.proofs.AddressLemmas.{digits_free}
use Rattle.desk_text.proofs.ExtLemmas.{ext_read, ext_spelled}
use Rattle.desk_text.proofs.ValueLaws.{bind_ok, or_back}
use Rattle.script_text.specs.Packets.{packet_from, packet_of, packet_of_parts, packet_text, marker_text, octets_or}
use Rattle.script_text.specs.Packets.{SpellsHex, SpellsPacket, IsReadable}

-- no octet of this text is a stroke
abbrev pub StrokeFree : List ℕ → Type 0
StrokeFree text = All (λ b. eqb b 47 ≡ false) text

-- ---- hexadecimal

both : (a b : Bool) → (a && b) ≡ true → (a ≡ true) × (b ≡ true)
both true b h = (refl, h)
both false b h = absurd cc

no_true : (b : Bool) → not b ≡ true → b ≡ false
no_true true h = absurd cc
no_true false h = refl

digit_of : (table : List ℕ) (k : ℕ) → list_all (λ b. not (eqb b 47)) table ≡ true → eqb (get_or table k 0) 47 ≡ false
digit_of [] k h = refl
digit_of (x ∷ xs) zero h = no_true (eqb x 47) (both (not (eqb x 47)) (list_all (λ b. not (eqb b 47)) xs) h).0
digit_of (x ∷ xs) (suc k) h = digit_of xs k (both (not (eqb x 47)) (list_all (λ b. not (eqb b 47)) xs) h).1

hex_free : (octets : List ℕ) → StrokeFree (encode_lower octets)
unfolding encode_with
hex_free [] = λ k d lt. absurd (omega (arith, lt))
hex_free (b ∷ rest) =
    All-cons (λ c. eqb c 47 ≡ false) (get_or lower_digits (b / 16) 0)
    (get_or lower_digits (b % 16) 0 ∷ encode_lower rest) (digit_of lower_digits (b / 16) refl)
    (All-cons (λ c. eqb c 47 ≡ false) (get_or lower_digits (b % 16) 0) (encode_lower rest)
    (digit_of lower_digits (b % 16) refl) (hex_free rest))

-- ---- numbers

number_free : (n : ℕ) → n < 2 ^ 64 → StrokeFree (decimal n)
number_free n small = digits_free 47 n (λ h. omega arith) small

ext_free : (z : ℤ) → FitsExt z → StrokeFree (signed_decimal z)
ext_free (pos n) small = number_free n (omega (arith, small))
ext_free (negsuc n) small =
    All-cons (λ c. eqb c 47 ≡ false) 45 (decimal (suc n)) refl (number_free (suc n) (omega (arith, small)))

marker_free : (marker : Bool) → StrokeFree (marker_text marker)
marker_free true = number_free 1 (omega arith)
marker_free false = number_free 0 (omega arith)

-- ---- a packet

split_four : (a b c d : List ℕ) → StrokeFree a → StrokeFree b → StrokeFree c → StrokeFree d
    → slice_split (λ x. eqb x 47) (a ++ 47 ∷ (b ++ 47 ∷ (c ++ 47 ∷ d))) ≡ a ∷ b ∷ c ∷ d ∷ []
split_four a b c d ha hb hc hd =
    rw (
      slice_split_at (λ x. eqb x 47) a 47 (b ++ 47 ∷ (c ++ 47 ∷ d)) ha refl,
      slice_split_at (λ x. eqb x 47) b 47 (c ++ 47 ∷ d) hb refl,
      slice_split_at (λ x. eqb x 47) c 47 d hc refl,
      slice_split_none (λ x. eqb x 47) d hd,
    )
    refl

grouped : (a b c d : List ℕ)
    → a ++ codes "/" ++ b ++ codes "/" ++ c ++ codes "/" ++ d ≡ a ++ 47 ∷ (b ++ 47 ∷ (c ++ 47 ∷ d))
grouped a b c d = simp append_assoc

marker_read : (marker : Bool) → (n : ℕ) × (decimal_of 1 (marker_text marker) ≡ Some n) × (eqb n 1 ≡ marker)
marker_read true = (1, read 1 1 (omega arith) (omega arith), refl)
marker_read false = (0, read 1 0 (omega arith) (omega arith), refl)

from_parts : (place : ℕ) (p : SourcePacket) → FitsExt p.ext → p.pt ≤ 255 → IsBytes p.payload
    → packet_from place (signed_decimal p.ext) (marker_text p.marker) (decimal p.pt) (encode_lower p.payload) ≡ Ok p
unfolding packet_from
from_parts place p ext pt payload =
    let m = marker_read p.marker in
    rw (ext_read p.ext ext, m.1, read 255 p.pt (omega arith) pt, decode_of-encode_lower p.payload payload, m.2) refl

packet_again : (place : ℕ) (p : SourcePacket) → FitsExt p.ext → p.pt ≤ 255 → IsBytes p.payload
    → packet_of place (packet_text p) ≡ Ok p
packet_again place p ext pt payload =
    ap (packet_of place) (grouped (signed_decimal p.ext) (marker_text p.marker) (decimal p.pt) (encode_lower p.payload))
    ∙ (ap (packet_of_parts place) (split_four (signed_decimal p.ext) (marker_text p.marker) (decimal p.pt)
    (encode_lower p.payload) (ext_free p.ext ext) (marker_free p.marker) (number_free p.pt (omega (arith, pt)))
    (hex_free p.payload))
    ∙ from_parts place p ext pt payload)

pub packet_read : (place : ℕ) (p : SourcePacket) → IsReadable p → packet_of place (packet_text p) ≡ Ok p
packet_read place p h = packet_again place p h.ext h.pt h.payload

-- ---- hexadecimal of either case

-- what holds of each number below this
holds_below : (test : ℕ → Bool) → ℕ → Bool
holds_below test zero = true
holds_below test (suc n) = test n && holds_below test n

held_at : (test : ℕ → Bool) (n k : ℕ) → holds_below test n ≡ true → k < n → test k ≡ true
unfolding holds_below
held_at test zero k h lt = absurd (omega arith)
held_at test (suc n) k h lt =
    elim (cases_lt k n) [
      | inl less ↦ held_at test n k (both (test n) (holds_below test n) h).1 less
      | inr more ↦
          let is : k ≡ n = omega arith in
          subst (λ (m : ℕ). test m ≡ true) (sym is) (both (test n) (holds_below test n) h).0
    ]

-- a digit's value has the digit in lower case
told_digit : ℕ → Option ℕ → Bool
told_digit c None = true
told_digit c (Some v) = eqb (to_ascii_lowercase c) (get_or lower_digits v 0) && nat_lt v 16

digits_told : holds_below (λ c. told_digit c (hex_digit_value c)) 128 ≡ true
unfolding holds_below told_digit
digits_told = refl

digit_small : (c v : ℕ) → hex_digit_value c ≡ Some v → c < 128
digit_small c v h = grind arith

digit_lower : (c v : ℕ) → hex_digit_value c ≡ Some v → (to_ascii_lowercase c ≡ get_or lower_digits v 0) × (v < 16)
unfolding told_digit
digit_lower c v h =
    let told : told_digit c (hex_digit_value c) ≡ true =
    held_at (λ c. told_digit c (hex_digit_value c)) 128 c digits_told (digit_small c v h) in
    let at : told_digit c (Some v) ≡ true = subst (λ (o : Option ℕ). told_digit c o ≡ true) h told in
    let parts = both (eqb (to_ascii_lowercase c) (get_or lower_digits v 0)) (nat_lt v 16) at in
    (eqb-true _ _ parts.0, ltb-true _ _ parts.1)

step_ok : {A B : Type 0} (r : Result A FromHexError) (f : A → Result B FromHexError) (y : B) → (r >>= f) ≡ Ok y
    → (x : A) × (r ≡ Ok x) × (f x ≡ Ok y)
step_ok (Ok x) f y e = (x, refl, e)
step_ok (Err x) f y e = absurd cc

value_some : (c i : ℕ) (o : Option ℕ) (v : ℕ) → digit_or_error c i o ≡ Ok v → o ≡ Some v
value_some c i (Some w) v e = cc
value_some c i None v e = absurd cc

pairs_lower : (i : ℕ) (word octets : List ℕ) → decode_pairs i word ≡ Ok octets
    → str_to_ascii_lowercase word ≡ encode_lower octets
unfolding decode_pairs encode_with
pairs_lower i [] octets e = let none : [] ≡ octets = cc in subst (λ (x : List ℕ). [] ≡ encode_lower x) none refl
pairs_lower i (a ∷ []) octets e = absurd cc
pairs_lower i (a ∷ b ∷ rest) octets e =
    let p = step_ok (pair_value a b i) _ octets e in
    let h = step_ok (value_at a i) _ p.0 p.1 in
    let l = step_ok (value_at b (i + 1)) _ p.0 h.2 in
    let o = step_ok (decode_pairs (i + 2) rest) _ octets p.2 in
    let high = digit_lower a h.0 (value_some a i (hex_digit_value a) h.0 h.1) in
    let low = digit_lower b l.0 (value_some b (i + 1) (hex_digit_value b) l.0 l.1) in
    let byte : h.0 * 16 + l.0 ≡ p.0 = cc (l.2) in
    let all : p.0 ∷ o.0 ≡ octets = cc (o.2) in
    let first : p.0 / 16 ≡ h.0 = omega (arith, low.1) in
    let second : p.0 % 16 ≡ l.0 = omega (arith, low.1) in
    let others = pairs_lower (i + 2) rest o.0 o.1 in
    subst (λ (x : List ℕ). str_to_ascii_lowercase (a ∷ b ∷ rest) ≡ encode_lower x) all
    (rw (first, second, high.0, low.0, others) refl)

pub hex_spelled : (word octets : List ℕ) → decode_of word ≡ Ok octets → SpellsHex word octets × IsBytes octets
hex_spelled word octets e =
    let ok = decode_of-ok word octets e in
    (pairs_lower 0 word octets (sym (decode_of-even word ok.0) ∙ e), ok.3)

-- ---- a word that is read

four_of : (place : ℕ) (parts : List (List ℕ)) (p : SourcePacket) → packet_of_parts place parts ≡ Ok p
    → (ext : List ℕ) × (marker : List ℕ) × (pt : List ℕ) × (payload : List ℕ)
    × (parts ≡ ext ∷ marker ∷ pt ∷ payload ∷ []) × (packet_from place ext marker pt payload ≡ Ok p)
four_of place [] p e = absurd cc
four_of place (a ∷ []) p e = absurd cc
four_of place (a ∷ b ∷ []) p e = absurd cc
four_of place (a ∷ b ∷ c ∷ []) p e = absurd cc
four_of place (a ∷ b ∷ c ∷ d ∷ []) p e = (a, b, c, d, refl, e)
four_of place (a ∷ b ∷ c ∷ d ∷ x ∷ xs) p e = absurd cc

pub octets_back : (place : ℕ) (r : Result (List ℕ) FromHexError) (octets : List ℕ) → octets_or place r ≡ Ok octets
    → r ≡ Ok octets
octets_back place (Ok x) octets e = cc
octets_back place (Err x) octets e = absurd cc

marker_spelled : (word : List ℕ) (n : ℕ) → word ≡ decimal n → n ≤ 1 → word ≡ marker_text (eqb n 1)
marker_spelled word zero is small = is
marker_spelled word (suc zero) is small = is
marker_spelled word (suc (suc n)) is small = absurd (omega (arith, small))

pub packet_spelled : (place : ℕ) (word : List ℕ) (p : SourcePacket) → packet_of place word ≡ Ok p
    → SpellsPacket word p × IsReadable p
unfolding packet_from
packet_spelled place word p e =
    let f = four_of place (slice_split (λ b. eqb b 47) word) p e in
    let x = bind_ok (value_or place BadNumber (ext_of f.0)) _ p f.5 in
    let m = bind_ok (value_or place BadNumber (decimal_of 1 f.1)) _ p x.2 in
    let n = bind_ok (value_or place BadNumber (decimal_of 255 f.2)) _ p m.2 in
    let o = bind_ok (octets_or place (decode_of f.3)) _ p n.2 in
    let made : SourcePacket = record { ext = x.0; marker = eqb m.0 1; pt = n.0; payload = o.0 } in
    let is : made ≡ p = cc (o.2) in
    let ext = ext_spelled f.0 x.0 (or_back place BadNumber (ext_of f.0) x.0 x.1) in
    let marker = spelled 1 m.0 f.1 (omega arith) (or_back place BadNumber (decimal_of 1 f.1) m.0 m.1) in
    let pt = spelled 255 n.0 f.2 (omega arith) (or_back place BadNumber (decimal_of 255 f.2) n.0 n.1) in
    let hex = hex_spelled f.3 o.0 (octets_back place (decode_of f.3) o.0 o.1) in
    let joined : word ≡ f.0 ++ 47 ∷ (f.1 ++ 47 ∷ (f.2 ++ 47 ∷ f.3)) =
    sym (join_with_byte-slice_split 47 word) ∙ ap (join_with_byte 47) f.4 in
    let text : word ≡ f.0 ++ codes "/" ++ marker_text made.marker ++ codes "/" ++ decimal made.pt ++ codes "/" ++ f.3 =
    joined ∙ (ap (λ (t : List ℕ). f.0 ++ 47 ∷ (t ++ 47 ∷ (f.2 ++ 47 ∷ f.3))) (marker_spelled f.1 m.0 marker.0 marker.1)
    ∙ (ap (λ (t : List ℕ). f.0 ++ 47 ∷ (marker_text made.marker ++ 47 ∷ (t ++ 47 ∷ f.3))) pt.0
    ∙ sym (grouped f.0 (marker_text made.marker) (decimal made.pt) f.3))) in
    subst (λ (q : SourcePacket). SpellsPacket word q × IsReadable q) is
    ((f.0, f.3, ext.1, hex.0, text), record { ext = ext.0; pt = pt.1; payload = hex.1 })
