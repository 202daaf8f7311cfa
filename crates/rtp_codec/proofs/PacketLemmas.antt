-- A datagram is the octets of one packet at most, and a packet has no fault.
use Rattle.std.proofs.Common.{◌≡◌, ℕ, zero, suc, ◌+◌, ◌-◌, ◌*◌, ◌/◌, ◌%◌, ◌≤◌, Bool, true, false, cond, List, [], ◌∷◌}
use Rattle.std.proofs.Common.{◌++◌, length, get_or, take, drop, Option, Some, None, refl, sym, ap, ◌∙◌, append_assoc}
use Rattle.std.proofs.Common.{arith}
use Rattle.std.specs.Prelude.{is_some, nat_lt, nat_le, ◌==◌}
use Rattle.std.specs.Int.{w16, w32, from_be_bytes, to_be_bytes}
use Rattle.std.proofs.lemmas.Bool.{le-ltb, lt-ltb, le-leb, lt-leb, ne_eqb}
use Rattle.std.proofs.lemmas.Bool.Decides.{nat_tests}
use Rattle.std.proofs.lemmas.List.{take_at, drop_at, length-append, length-drop, drop-drop, take-append-drop}
use Rattle.std.proofs.lemmas.List.{append-nil, get_or-take}
use Rattle.std.proofs.lemmas.List.Concat.{flat_map-cons}
use Rattle.std.proofs.Math.Seq.{get_or-append_seam}
use Rattle.rtp_codec.specs.declared.fault.RtpFault.TheVariants.{Extension, Padding}
use Rattle.std.proofs.lemmas.Nat.{from_be_bytes-to_be_bytes_2, from_be_bytes-to_be_bytes_4}
use Rattle.rtp_codec.specs.declared.writing.Header.{Header}
use Rattle.rtp_codec.specs.Packet.{Packet, IsPacket, csrcs_in, header_of, most_csrcs, plain, written, number_octets}
use Rattle.rtp_codec.specs.Packet.{FitsHeader, FitsExtension, IsPadding, first_octet, second_octet, number_fields}
use Rattle.rtp_codec.specs.Packet.{fixed_header, extension_octets}
use Rattle.rtp_codec.specs.Fault.{extension_size, lacks_extension, behind_extension, last_octet, lacks_padding}
use Rattle.rtp_codec.specs.Fault.{first_fault, behind_csrcs}

-- the fields of the first octet
first_fields : (padded extended : Bool) (n : ℕ) → n ≤ 15 → let f = first_octet padded extended n in
    (f / 64 ≡ 2) × (f / 32 % 2 ≡ cond padded 1 0) × (f / 16 % 2 ≡ cond extended 1 0) × (f % 16 ≡ n)
first_fields true true n h = (omega arith, omega arith, omega arith, omega arith)
first_fields true false n h = (omega arith, omega arith, omega arith, omega arith)
first_fields false true n h = (omega arith, omega arith, omega arith, omega arith)
first_fields false false n h = (omega arith, omega arith, omega arith, omega arith)

-- the extension that stands at the front, where one is due
extension_at : Bool → List ℕ → Option (ℕ × List ℕ)
extension_at false octets = None
extension_at true octets = Some (from_be_bytes w16 (take 2 octets), take (extension_size octets - 4) (drop 4 octets))

record Extends (e : Option (ℕ × List ℕ)) (rest : List ℕ) : Type 0 where
  pub whole : lacks_extension (is_some e) (extension_octets e ++ rest) ≡ false
  pub behind : behind_extension (is_some e) (extension_octets e ++ rest) ≡ rest
  pub same : extension_at (is_some e) (extension_octets e ++ rest) ≡ e

extends : (e : Option (ℕ × List ℕ)) (rest : List ℕ) → FitsExtension e → Extends e rest
unfolding extension_at
extends None rest h = record { whole = refl; behind = refl; same = refl }
extends (Some e) rest h =
    let words : ℕ = h.1 in
    let count : length e.1 / 4 ≡ words = omega (arith, h.2) in
    let back : from_be_bytes w16 (to_be_bytes w16 (length e.1 / 4)) ≡ words =
    from_be_bytes-to_be_bytes_2 (length e.1 / 4) (omega (arith, h.2, h.3)) ∙ count in
    let profile : from_be_bytes w16 (to_be_bytes w16 e.0) ≡ e.0 = from_be_bytes-to_be_bytes_2 e.0 h.0 in
    let octets : List ℕ = extension_octets (Some e) ++ rest in
    let size : extension_size octets ≡ 4 + length e.1 = ap (λ (n : ℕ). 4 + 4 * n) back ∙ omega (arith, h.2) in
    let long : length octets ≡ 4 + (length e.1 + length rest) = omega (arith, length-append e.1 rest) in
    record {
      whole =
          rw (le-ltb (length octets) 4 (omega arith), le-ltb (length octets) (extension_size octets) (omega arith))
          refl;
      behind = rw size (drop_at (extension_octets (Some e)) rest (4 + length e.1) (omega arith));
      same =
          ap (λ (n : ℕ). Some (n, take (extension_size octets - 4) (drop 4 octets))) profile
          ∙ ap (λ (l : List ℕ). Some (e.0, l)) (take_at e.1 rest (extension_size octets - 4) (omega arith));
    }

-- the padding that stands at the end, where it is due
padding_at : Bool → List ℕ → ℕ
padding_at padded octets = cond padded (last_octet octets) 0

payload_at : Bool → List ℕ → List ℕ
payload_at padded octets = take (length octets - padding_at padded octets) octets

record Pads (payload : List ℕ) (n : ℕ) (padding : List ℕ) : Type 0 where
  pub whole : lacks_padding (nat_lt 0 n) (payload ++ padding) ≡ false
  pub count : padding_at (nat_lt 0 n) (payload ++ padding) ≡ n
  pub same : payload_at (nat_lt 0 n) (payload ++ padding) ≡ payload

last_of : (front : List ℕ) (x : ℕ) → last_octet (front ++ x ∷ []) ≡ x
last_of front x =
    let at : length (front ++ x ∷ []) - 1 ≡ length front = omega (arith, length-append front (x ∷ [])) in
    ap (λ (i : ℕ). get_or (front ++ x ∷ []) i 0) at ∙ get_or-append_seam front x [] 0

pads : (payload : List ℕ) (n : ℕ) (padding : List ℕ) → IsPadding n padding → Pads payload n padding
unfolding padding_at payload_at
pads payload zero padding h =
    record {
      whole = refl;
      count = refl;
      same = rw h (take_at payload [] (length (payload ++ []) - 0) (omega (arith, length-append payload [])));
    }
pads payload (suc n) padding h =
    let octets : List ℕ = payload ++ padding in
    let shape : octets ≡ (payload ++ h.0) ++ suc n ∷ [] =
    ap (λ (l : List ℕ). payload ++ l) h.2 ∙ sym (append_assoc payload h.0 (suc n ∷ [])) in
    let last : last_octet octets ≡ suc n = ap last_octet shape ∙ last_of (payload ++ h.0) (suc n) in
    let len : length padding ≡ suc n = ap length h.2 ∙ omega (arith, length-append h.0 (suc n ∷ []), h.1) in
    let long : length octets ≡ length payload + suc n = omega (arith, length-append payload padding) in
    let some : nat_lt 0 (suc n) ≡ true = lt-ltb 0 (suc n) (omega arith) in
    record {
      whole =
          rw (some, last, ne_eqb (suc n) 0 (λ e. absurd (omega arith)), le-ltb (length octets) (suc n) (omega arith))
          refl;
      count = rw (some, last) refl;
      same = rw (some, last) (take_at payload padding (length octets - suc n) (omega arith));
    }

-- ---- what the code learns from the first octet

first_octet_is : (x : ℕ) → x / 64 ≡ 2 → first_octet (x / 32 % 2 == 1) (x / 16 % 2 == 1) (x % 16) ≡ x
first_octet_is x h = grind (arith, nat_tests)

pub fixed_header_is : (fixed : List ℕ) (padded extended : Bool) (h : Header) → length fixed ≡ 12
    → get_or fixed 0 0 / 64 ≡ 2 → padded ≡ (get_or fixed 0 0 / 32 % 2 == 1)
    → extended ≡ (get_or fixed 0 0 / 16 % 2 == 1) → second_octet h ≡ get_or fixed 1 0 → number_fields h ≡ drop 2 fixed
    → fixed_header padded extended h (get_or fixed 0 0 % 16) ≡ fixed
fixed_header_is (x ∷ y ∷ fixed) padded extended h len version p e second numbers =
    let first : first_octet padded extended (x % 16) ≡ x = rw (p, e) (first_octet_is x version) in
    cc
fixed_header_is (x ∷ []) padded extended h len version p e second numbers = absurd (omega arith)
fixed_header_is [] padded extended h len version p e second numbers = absurd (omega arith)

fault_behind_csrcs : (octets rest : List ℕ) (x : ℕ) → get_or octets 0 0 ≡ x → 12 ≤ length octets → x / 64 ≡ 2
    → 12 + 4 * (x % 16) ≤ length octets → rest ≡ drop (12 + 4 * (x % 16)) octets →
    first_fault octets
    ≡ cond (lacks_extension (x / 16 % 2 == 1) rest) (Some Extension)
    (cond (lacks_padding (x / 32 % 2 == 1) (behind_extension (x / 16 % 2 == 1) rest)) (Some Padding) None)
unfolding first_fault
fault_behind_csrcs octets rest x first long version csrcs behind =
    rw (first, ← behind, le-ltb (length octets) 12 long, version, le-ltb (length octets) (12 + 4 * (x % 16)) csrcs) refl

pub fault_behind : (octets fixed after rest : List ℕ) (n : ℕ) → 12 ≤ length octets → fixed ≡ take 12 octets
    → after ≡ drop 12 octets → get_or fixed 0 0 / 64 ≡ 2 → n ≡ 4 * (get_or fixed 0 0 % 16) → n ≤ length after
    → rest ≡ drop n after →
    first_fault octets
    ≡ cond (lacks_extension (get_or fixed 0 0 / 16 % 2 == 1) rest) (Some Extension)
    (cond (lacks_padding (get_or fixed 0 0 / 32 % 2 == 1) (behind_extension (get_or fixed 0 0 / 16 % 2 == 1) rest))
    (Some Padding) None)
fault_behind octets fixed after rest n long front back version size csrcs behind =
    let first : get_or octets 0 0 ≡ get_or fixed 0 0 =
    sym (ap (λ (l : List ℕ). get_or l 0 0) front ∙ get_or-take 12 octets 0 0 (omega arith)) in
    let len : length after ≡ length octets - 12 = ap length back ∙ length-drop 12 octets in
    fault_behind_csrcs octets rest (get_or fixed 0 0) first long version (omega arith)
    (behind ∙ rw (size, back) (drop-drop (4 * (get_or fixed 0 0 % 16)) 12 octets))

-- what was split off in turn stands there in order
pub parts_joined : (octets fixed after csrcs rest extension left payload padding header : List ℕ) (n : ℕ)
    → fixed ≡ take 12 octets → after ≡ drop 12 octets → csrcs ≡ take n after → rest ≡ drop n after
    → rest ≡ extension ++ left → left ≡ payload ++ padding → header ≡ fixed →
    octets ≡ header ++ (csrcs ++ (extension ++ (payload ++ padding)))
parts_joined octets fixed after csrcs rest extension left payload padding header n front back first second third fourth
    is =
    let e : csrcs ++ rest ≡ after = rw (first, second) (take-append-drop n after) in
    let f : fixed ++ after ≡ octets = rw (front, back) (take-append-drop 12 octets) in
    sym f ∙ rw (is, ← e, third, fourth) refl

-- the parts of a packet whose contributing sources are so many
pub counted_parts : (p : Packet) (octets : List ℕ) (n : ℕ) (rest : List ℕ) → length p.csrc_octets ≡ 4 * n
    → octets ≡ fixed_header (nat_lt 0 p.padding) (is_some p.extension) p.header n ++ rest → octets ≡ header_of p ++ rest
counted_parts p octets n rest len e =
    let count : n ≡ csrcs_in p = omega (arith, len) in
    e ∙ ap (λ (k : ℕ). fixed_header (nat_lt 0 p.padding) (is_some p.extension) p.header k ++ rest) count

-- ---- the one packet of a datagram

marked : (marker : Bool) (pt : ℕ) → pt ≤ 127
    → ((nat_le 128 (cond marker (128 + pt) pt)) ≡ marker) × (cond marker (128 + pt) pt % 128 ≡ pt)
marked true pt h = (le-leb 128 (128 + pt) (omega arith), omega arith)
marked false pt h = (lt-leb 128 pt (omega arith), omega arith)

header_at : List ℕ → Header
header_at octets = record {
  marker = nat_le 128 (get_or octets 1 0);
  pt = get_or octets 1 0 % 128;
  seq = from_be_bytes w16 (take 2 (drop 2 octets));
  ts = from_be_bytes w32 (take 4 (drop 4 octets));
  ssrc = from_be_bytes w32 (take 4 (drop 8 octets));
}

header_again : (padded extended : Bool) (h : Header) (n : ℕ) (rest : List ℕ) → FitsHeader h
    → header_at (fixed_header padded extended h n ++ rest) ≡ h
unfolding header_at
header_again padded extended h n rest fits =
    let second = marked h.marker h.pt fits.pt in
    rw (
      second.0,
      second.1,
      from_be_bytes-to_be_bytes_2 h.seq fits.seq,
      from_be_bytes-to_be_bytes_4 h.ts fits.ts,
      from_be_bytes-to_be_bytes_4 h.ssrc fits.ssrc,
    )
    refl

-- what follows the contributing sources, and what follows the extension
left_of : List ℕ → List ℕ
left_of octets = behind_extension (get_or octets 0 0 / 16 % 2 == 1) (behind_csrcs octets)

packet_at : List ℕ → Packet
packet_at octets = record {
  header = header_at octets;
  csrc_octets = take (4 * (get_or octets 0 0 % 16)) (drop 12 octets);
  extension = extension_at (get_or octets 0 0 / 16 % 2 == 1) (behind_csrcs octets);
  payload = payload_at (get_or octets 0 0 / 32 % 2 == 1) (left_of octets);
  padding = padding_at (get_or octets 0 0 / 32 % 2 == 1) (left_of octets);
}

is_set : (b : Bool) (n : ℕ) → n ≡ cond b 1 0 → (n == 1) ≡ b
is_set true n h = rw h refl
is_set false n h = rw h refl

behind_is : (fixed csrcs rest : List ℕ) (n : ℕ) → length fixed ≡ 12 → length csrcs ≡ 4 * n
    → drop (12 + 4 * n) (fixed ++ (csrcs ++ rest)) ≡ rest
behind_is fixed csrcs rest n f c =
    rw (← append_assoc fixed csrcs rest)
    (drop_at (fixed ++ csrcs) rest (12 + 4 * n) (omega (arith, length-append fixed csrcs)))

record Reads (p : Packet) (octets : List ℕ) : Type 0 where
  pub fault : first_fault octets ≡ None
  pub same : packet_at octets ≡ p

reads : (p : Packet) (octets : List ℕ) → IsPacket p octets → Reads p octets
unfolding packet_at left_of
reads p octets k =
    let count = csrcs_in p in
    let whole_csrcs : length p.csrc_octets ≡ 4 * count = omega (arith, k.csrcs) in
    let padded = nat_lt 0 p.padding in
    let extended = is_some p.extension in
    let left = p.payload ++ k.padding_octets in
    let rest = extension_octets p.extension ++ left in
    let fixed = fixed_header padded extended p.header count in
    let whole = fixed ++ (p.csrc_octets ++ rest) in
    let x = first_octet padded extended count in
    let f = first_fields padded extended count k.csrcs_fit in
    let p-test : (x / 32 % 2 == 1) ≡ padded = is_set padded (x / 32 % 2) f.1 in
    let e-test : (x / 16 % 2 == 1) ≡ extended = is_set extended (x / 16 % 2) f.2 in
    let behind : behind_csrcs whole ≡ rest =
    ap (λ (n : ℕ). drop (12 + 4 * n) whole) f.3 ∙ behind_is fixed p.csrc_octets rest count refl whole_csrcs in
    let e = extends p.extension left k.extension in
    let q = pads p.payload p.padding k.padding_octets k.padding in
    let long : length whole ≡ 12 + (4 * count + length rest) =
    omega (arith, length-append p.csrc_octets rest, whole_csrcs) in
    let fault : first_fault whole ≡ None =
    fault_behind_csrcs whole rest x refl (omega arith) f.0 (omega (arith, f.3)) (sym behind)
    ∙ rw (e-test, p-test, e.whole, e.behind, q.whole) refl in
    let csrcs : take (4 * (x % 16)) (p.csrc_octets ++ rest) ≡ p.csrc_octets =
    take_at p.csrc_octets rest (4 * (x % 16)) (omega (arith, f.3, whole_csrcs)) in
    let same : packet_at whole ≡ p =
    rw (
      header_again padded extended p.header count (p.csrc_octets ++ rest) k.header,
      csrcs,
      behind,
      e-test,
      p-test,
      e.same,
      e.behind,
      q.same,
      q.count,
    )
    refl in
    record { fault = rw k.parts fault; same = rw k.parts same }

pub packet_has_no_fault : (p : Packet) (octets : List ℕ) → IsPacket p octets → first_fault octets ≡ None
packet_has_no_fault p octets k = (reads p octets k).fault

pub one_packet : (p q : Packet) (octets : List ℕ) → IsPacket p octets → IsPacket q octets → q ≡ p
one_packet p q octets k l = sym (reads q octets l).same ∙ (reads p octets k).same

-- ---- the written form

number_octets-length : (numbers : List ℕ) → length (number_octets numbers) ≡ 4 * length numbers
number_octets-length [] = refl
number_octets-length (n ∷ ns) =
    ap length (flat_map-cons (λ n. to_be_bytes w32 n) n ns) ∙ omega (arith, number_octets-length ns)

pub written_is_packet : (h : Header) (csrcs payload : List ℕ) → FitsHeader h → length csrcs ≤ most_csrcs
    → IsPacket (plain h csrcs payload) (written h csrcs payload)
written_is_packet h csrcs payload fits few =
    let len = number_octets-length csrcs in
    let count : length (number_octets csrcs) / 4 ≡ length csrcs = omega (arith, len) in
    record {
      padding_octets = [];
      parts =
          rw (
            count,
            append-nil payload,
            append_assoc (fixed_header false false h (length csrcs)) (number_octets csrcs) payload,
          )
          refl;
      header = fits;
      csrcs = omega (arith, len);
      csrcs_fit = omega (arith, count, few);
      extension = tt;
      padding = refl;
    }
