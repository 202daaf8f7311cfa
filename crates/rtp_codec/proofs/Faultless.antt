-- Octets that have no fault are a packet.
use Rattle.std.proofs.Common.{◌≡◌, ℕ, zero, suc, ◌+◌, ◌-◌, ◌*◌, ◌/◌, ◌%◌, ◌^◌, ◌<◌, ◌≤◌, Bool, true, false, not, cond}
use Rattle.std.proofs.Common.{List, [], ◌∷◌, ◌++◌, length, get_or, take, drop, Option, Some, None, refl, sym, ap, subst}
use Rattle.std.proofs.Common.{◌∙◌, arith, inl, inr}
use Rattle.std.specs.Prelude.{is_some, nat_lt, nat_le, ◌==◌}
use Rattle.std.specs.Int.{w16, w32, from_be_bytes, to_be_bytes}
use Rattle.std.proofs.lemmas.Bool.{ltb-false, le-leb, lt-leb, lt-ltb, eqb-true, eqb-false, cases_lt, or_parts}
use Rattle.std.proofs.lemmas.List.{length-take, length-drop, take-append-drop, append-nil, get_or-drop}
use Rattle.std.proofs.lemmas.Nat.{be_bytes_2, be_bytes_4}
use Rattle.rtp_codec.specs.declared.fault.RtpFault.{RtpFault}
use Rattle.rtp_codec.specs.declared.fault.RtpFault.TheVariants.{Short, Version, Csrc, Extension, Padding}
use Rattle.rtp_codec.specs.declared.writing.Header.{Header}
use Rattle.rtp_codec.specs.Octets.{AreOctets}
use Rattle.rtp_codec.specs.Packet.{Packet, IsPacket, FitsHeader, FitsExtension, IsPadding, second_octet, number_fields}
use Rattle.rtp_codec.specs.Packet.{extension_octets, fixed_header}
use Rattle.rtp_codec.specs.Fault.{version, is_padded, is_extended, csrc_count, behind_csrcs, extension_size}
use Rattle.rtp_codec.specs.Fault.{lacks_extension, behind_extension, last_octet, lacks_padding, first_fault}
use Rattle.rtp_codec.proofs.PacketLemmas.{fixed_header_is, counted_parts}

-- ---- octets by index

abbrev IsSmall : List ℕ → Type 0
IsSmall octets = (i : ℕ) → get_or octets i 0 < 256

by_index : (octets : List ℕ) → AreOctets octets → IsSmall octets
by_index [] h i = omega arith
by_index (x ∷ xs) h zero = h.0
by_index (x ∷ xs) h (suc i) = by_index xs h.1 i

two_small : (c d : ℕ) → c < 256 → d < 256 → IsSmall (c ∷ d ∷ [])
two_small c d hc hd zero = hc
two_small c d hc hd (suc zero) = hd
two_small c d hc hd (suc (suc i)) = omega arith

four_small : (a b c d : ℕ) → a < 256 → b < 256 → c < 256 → d < 256 → IsSmall (a ∷ b ∷ c ∷ d ∷ [])
four_small a b c d ha hb hc hd zero = ha
four_small a b c d ha hb hc hd (suc zero) = hb
four_small a b c d ha hb hc hd (suc (suc i)) = two_small c d hc hd i

-- ---- numbers at the front

record Number (spelled : ℕ → List ℕ) (size limit : ℕ) (octets : List ℕ) : Type 0 where
  pub value : ℕ
  pub rest : List ℕ
  pub parts : octets ≡ spelled value ++ rest
  pub fits : value < limit
  pub left : length octets ≡ size + length rest
  pub small : IsSmall rest

first_16 : (octets : List ℕ) → IsSmall octets → 2 ≤ length octets → Number (λ n. to_be_bytes w16 n) 2 (2 ^ 16) octets
first_16 (a ∷ b ∷ rest) small long =
    let n = from_be_bytes w16 (a ∷ b ∷ []) in
    record {
      value = n;
      rest = rest;
      parts =
          ap (λ (l : List ℕ). l ++ rest)
          (sym (be_bytes_2 (a ∷ b ∷ []) n refl (two_small a b (small 0) (small 1)) refl));
      fits = omega (arith, small 0, small 1);
      left = omega arith;
      small = λ i. small (suc (suc i));
    }
first_16 (a ∷ []) small long = absurd (omega arith)
first_16 [] small long = absurd (omega arith)

first_32 : (octets : List ℕ) → IsSmall octets → 4 ≤ length octets → Number (λ n. to_be_bytes w32 n) 4 (2 ^ 32) octets
first_32 (a ∷ b ∷ c ∷ d ∷ rest) small long =
    let n = from_be_bytes w32 (a ∷ b ∷ c ∷ d ∷ []) in
    record {
      value = n;
      rest = rest;
      parts =
          ap (λ (l : List ℕ). l ++ rest)
          (sym
          (be_bytes_4 (a ∷ b ∷ c ∷ d ∷ []) n refl (four_small a b c d (small 0) (small 1) (small 2) (small 3)) refl));
      fits = omega (arith, small 0, small 1, small 2, small 3);
      left = omega arith;
      small = λ i. small (suc (suc (suc (suc i))));
    }
first_32 (a ∷ b ∷ c ∷ []) small long = absurd (omega arith)
first_32 (a ∷ b ∷ []) small long = absurd (omega arith)
first_32 (a ∷ []) small long = absurd (omega arith)
first_32 [] small long = absurd (omega arith)

-- ---- the header

record Begins (octets : List ℕ) : Type 0 where
  pub first : ℕ
  pub second : ℕ
  pub header : Header
  pub rest : List ℕ
  pub parts : octets ≡ (first ∷ second ∷ number_fields header) ++ rest
  pub its_second : second_octet header ≡ second
  pub fits : FitsHeader header
  pub small : IsSmall rest

marked : (b : ℕ) → b < 256 → cond (nat_le 128 b) (128 + b % 128) (b % 128) ≡ b
marked b small =
    elim (cases_lt b 128) [
      | inl lt ↦ rw (lt-leb 128 b lt) (omega arith)
      | inr le ↦ rw (le-leb 128 b le) (omega arith)
    ]

begins : (octets : List ℕ) → IsSmall octets → 12 ≤ length octets → Begins octets
begins (a ∷ b ∷ more) small long =
    let s = first_16 more (λ i. small (suc (suc i))) (omega arith) in
    let t = first_32 s.rest s.small (omega (arith, s.left)) in
    let x = first_32 t.rest t.small (omega (arith, s.left, t.left)) in
    let h : Header = record { marker = nat_le 128 b; pt = b % 128; seq = s.value; ts = t.value; ssrc = x.value } in
    record {
      first = a;
      second = b;
      header = h;
      rest = x.rest;
      parts =
          ap (λ (l : List ℕ). a ∷ b ∷ l) (s.parts
          ∙ ap (λ (l : List ℕ). to_be_bytes w16 s.value ++ l)
          (t.parts ∙ ap (λ (l : List ℕ). to_be_bytes w32 t.value ++ l) x.parts));
      its_second = marked b (small 1);
      fits = record { pt = omega arith; seq = s.fits; ts = t.fits; ssrc = x.fits };
      small = x.small;
    }
begins (a ∷ []) small long = absurd (omega arith)
begins [] small long = absurd (omega arith)

-- ---- the header extension

record Extends (extended : Bool) (octets : List ℕ) : Type 0 where
  pub value : Option (ℕ × List ℕ)
  pub rest : List ℕ
  pub parts : octets ≡ extension_octets value ++ rest
  pub some : is_some value ≡ extended
  pub behind : rest ≡ behind_extension extended octets
  pub fits : FitsExtension value

extends : (extended : Bool) (octets : List ℕ) → IsSmall octets → lacks_extension extended octets ≡ false
    → Extends extended octets
extends false octets small whole =
    record { value = None; rest = octets; parts = refl; some = refl; behind = refl; fits = tt }
extends true (a ∷ b ∷ c ∷ d ∷ more) small whole =
    let octets : List ℕ = a ∷ b ∷ c ∷ d ∷ more in
    let tests = or_parts (nat_lt (length octets) 4) (nat_lt (length octets) (extension_size octets)) whole in
    let long : extension_size octets ≤ length octets = ltb-false (length octets) (extension_size octets) tests.1 in
    let profile : ℕ = from_be_bytes w16 (a ∷ b ∷ []) in
    let words : ℕ = from_be_bytes w16 (c ∷ d ∷ []) in
    let text : List ℕ = take (4 * words) more in
    let few : length text ≡ 4 * words = omega (arith, long, length-take (4 * words) more) in
    let count : length text / 4 ≡ words = omega (arith, few) in
    let front : to_be_bytes w16 profile ≡ a ∷ b ∷ [] =
    be_bytes_2 (a ∷ b ∷ []) profile refl (two_small a b (small 0) (small 1)) refl in
    let counted : to_be_bytes w16 (length text / 4) ≡ c ∷ d ∷ [] =
    ap (λ (n : ℕ). to_be_bytes w16 n) count
    ∙ be_bytes_2 (c ∷ d ∷ []) words refl (two_small c d (small 2) (small 3)) refl in
    record {
      value = Some (profile, text);
      rest = drop (4 * words) more;
      parts =
          sym (ap (λ (l : List ℕ). l ++ (to_be_bytes w16 (length text / 4) ++ (text ++ drop (4 * words) more))) front
          ∙ ap (λ (l : List ℕ). a ∷ b ∷ (l ++ (text ++ drop (4 * words) more))) counted
          ∙ ap (λ (l : List ℕ). a ∷ b ∷ c ∷ d ∷ l) (take-append-drop (4 * words) more));
      some = refl;
      behind =
          ap (λ (n : ℕ). drop n octets) (let e : suc (suc (suc (suc (4 * words)))) ≡ 4 + 4 * words = omega arith in e);
      fits = (omega (arith, small 0, small 1), words, few, omega (arith, small 2, small 3));
    }
extends true (a ∷ b ∷ c ∷ []) small whole = absurd cc
extends true (a ∷ b ∷ []) small whole = absurd cc
extends true (a ∷ []) small whole = absurd cc
extends true [] small whole = absurd cc

-- ---- the padding

record Pads (padded : Bool) (octets : List ℕ) : Type 0 where
  pub payload : List ℕ
  pub count : ℕ
  pub padding : List ℕ
  pub parts : octets ≡ payload ++ padding
  pub some : nat_lt 0 count ≡ padded
  pub is_padding : IsPadding count padding

-- the last of octets stands behind the others
last_split : (l : List ℕ) (m : ℕ) → length l ≡ suc m → l ≡ take m l ++ get_or l m 0 ∷ []
last_split [] m h = absurd (omega arith)
last_split (x ∷ []) zero h = refl
last_split (x ∷ y ∷ ys) zero h = absurd (omega arith)
last_split (x ∷ xs) (suc m) h = ap (λ (l : List ℕ). x ∷ l) (last_split xs m (omega arith))

counts : (octets : List ℕ) (m : ℕ) → last_octet octets ≡ suc m → suc m ≤ length octets
    → IsPadding (suc m) (drop (length octets - suc m) octets)
counts octets m is few =
    let at = length octets - suc m in
    let padding = drop at octets in
    let len : length padding ≡ suc m = omega (arith, length-drop at octets) in
    let place : at + m ≡ length octets - 1 = omega arith in
    let last : get_or padding m 0 ≡ suc m =
    get_or-drop at octets m 0 ∙ ap (λ (i : ℕ). get_or octets i 0) place ∙ is in (
      take m padding,
      omega (arith, length-take m padding),
      last_split padding m len ∙ ap (λ (x : ℕ). take m padding ++ x ∷ []) last,
    )

padded_by : (octets : List ℕ) (n : ℕ) → last_octet octets ≡ n → (n ≡ 0 → ⊥) → n ≤ length octets → Pads true octets
padded_by octets zero is some few = absurd (some refl)
padded_by octets (suc m) is some few = record {
  payload = take (length octets - suc m) octets;
  count = suc m;
  padding = drop (length octets - suc m) octets;
  parts = sym (take-append-drop (length octets - suc m) octets);
  some = lt-ltb 0 (suc m) (omega arith);
  is_padding = counts octets m is few;
}

pads : (padded : Bool) (octets : List ℕ) → lacks_padding padded octets ≡ false → Pads padded octets
pads false octets whole =
    record {
      payload = octets;
      count = 0;
      padding = [];
      parts = sym (append-nil octets);
      some = refl;
      is_padding = refl;
    }
pads true octets whole =
    let tests = or_parts (last_octet octets == 0) (nat_lt (length octets) (last_octet octets)) whole in
    padded_by octets (last_octet octets) refl (eqb-false (last_octet octets) 0 tests.0)
    (ltb-false (length octets) (last_octet octets) tests.1)

-- ---- no case of a fault holds

record Faultless (octets : List ℕ) : Type 0 where
  pub long : 12 ≤ length octets
  pub version : version octets ≡ 2
  pub csrcs : 12 + 4 * csrc_count octets ≤ length octets
  pub extension : lacks_extension (is_extended octets) (behind_csrcs octets) ≡ false
  pub padding : lacks_padding (is_padded octets) (behind_extension (is_extended octets) (behind_csrcs octets)) ≡ false

not_told : (b : Bool) (f : RtpFault) (others : Option RtpFault) → cond b (Some f) others ≡ None
    → (b ≡ false) × (others ≡ None)
not_told true f others e = absurd cc
not_told false f others e = (refl, e)

not_false : (b : Bool) → not b ≡ false → b ≡ true
not_false true e = refl
not_false false e = absurd cc

faultless : (octets : List ℕ) → first_fault octets ≡ None → Faultless octets
unfolding first_fault
faultless octets e =
    let a = not_told (nat_lt (length octets) 12) Short _ e in
    let b = not_told (not (version octets == 2)) Version _ a.1 in
    let c = not_told (nat_lt (length octets) (12 + 4 * csrc_count octets)) Csrc _ b.1 in
    let d = not_told (lacks_extension (is_extended octets) (behind_csrcs octets)) Extension _ c.1 in
    let f =
    not_told (lacks_padding (is_padded octets) (behind_extension (is_extended octets) (behind_csrcs octets))) Padding _
    d.1 in
    record {
      long = ltb-false (length octets) 12 a.0;
      version = eqb-true (version octets) 2 (not_false (version octets == 2) b.0);
      csrcs = ltb-false (length octets) (12 + 4 * csrc_count octets) c.0;
      extension = d.0;
      padding = f.0;
    }

-- ---- the packet

from_parts : (x y : ℕ) (h : Header) (after : List ℕ) → second_octet h ≡ y → FitsHeader h → IsSmall after
    → Faultless ((x ∷ y ∷ number_fields h) ++ after) → (p : Packet) × IsPacket p ((x ∷ y ∷ number_fields h) ++ after)
from_parts x y h after second fits small f =
    let fixed : List ℕ = x ∷ y ∷ number_fields h in
    let octets : List ℕ = fixed ++ after in
    let n : ℕ = x % 16 in
    let csrcs : List ℕ = take (4 * n) after in
    let rest : List ℕ = drop (4 * n) after in
    let twelve : 12 + 4 * n ≡ suc (suc (suc (suc (suc (suc (suc (suc (suc (suc (suc (suc (4 * n)))))))))))) =
    omega arith in
    let behind : behind_csrcs octets ≡ rest = ap (λ (m : ℕ). drop m octets) twelve in
    let few : length csrcs ≡ 4 * n = omega (arith, f.csrcs, length-take (4 * n) after) in
    let within : IsSmall rest = λ i. rw (get_or-drop (4 * n) after i 0) (small (4 * n + i)) in
    let e = extends (x / 16 % 2 == 1) rest within (sym (ap (lacks_extension (x / 16 % 2 == 1)) behind) ∙ f.extension) in
    let left : behind_extension (x / 16 % 2 == 1) (behind_csrcs octets) ≡ e.rest =
    ap (behind_extension (x / 16 % 2 == 1)) behind ∙ sym e.behind in
    let q = pads (x / 32 % 2 == 1) e.rest (sym (ap (lacks_padding (x / 32 % 2 == 1)) left) ∙ f.padding) in
    let p : Packet =
    record { header = h; csrc_octets = csrcs; extension = e.value; payload = q.payload; padding = q.count } in
    let parts : List ℕ = csrcs ++ (extension_octets e.value ++ (q.payload ++ q.padding)) in
    let joined : after ≡ parts =
    sym (take-append-drop (4 * n) after)
    ∙ ap (λ (l : List ℕ). csrcs ++ l) (e.parts ∙ ap (λ (l : List ℕ). extension_octets e.value ++ l) q.parts) in
    let front : fixed_header (nat_lt 0 q.count) (is_some e.value) h n ≡ fixed =
    fixed_header_is fixed (nat_lt 0 q.count) (is_some e.value) h refl f.version q.some e.some second refl in (
      p,
      record {
        padding_octets = q.padding;
        parts =
            counted_parts p octets n parts few
            (ap (λ (l : List ℕ). fixed ++ l) joined ∙ ap (λ (l : List ℕ). l ++ parts) (sym front));
        header = fits;
        csrcs = omega (arith, few);
        csrcs_fit = omega (arith, few);
        extension = e.fits;
        padding = q.is_padding;
      },
    )

pub faultless_is_packet : (octets : List ℕ) → AreOctets octets → first_fault octets ≡ None
    → (p : Packet) × IsPacket p octets
faultless_is_packet octets small e =
    let f = faultless octets e in
    let b = begins octets (by_index octets small) f.long in
    let found = from_parts b.first b.second b.header b.rest b.its_second b.fits b.small (subst Faultless b.parts f) in
    (found.0, subst (IsPacket found.0) (sym b.parts) found.1)
