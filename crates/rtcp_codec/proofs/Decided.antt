-- Octets are a compound or have a fault.
use Rattle.std.proofs.Common.{◌≡◌, ℕ, zero, suc, ◌+◌, ◌-◌, ◌*◌, ◌%◌, ◌^◌, ◌<◌, ◌≤◌, Bool, true, false, List, [], ◌∷◌}
use Rattle.std.proofs.Common.{◌++◌, length, get_or, take, drop, refl, sym, ap, ◌∙◌, arith, inl, inr}
use Rattle.std.specs.Prelude.{◌⊎◌}
use Rattle.std.specs.Int.{w32, to_be_bytes}
use Rattle.std.specs.List.{flat_map, AllByRecursion}
use Rattle.std.proofs.lemmas.Bool.{cases_lt, cases_eq}
use Rattle.std.proofs.lemmas.List.{length-drop, length-take, take-append-drop}
use Rattle.rtp_codec.specs.Octets.{AreOctets}
use Rattle.rtcp_codec.specs.declared.fault.RtcpFault.{RtcpFault}
use Rattle.rtcp_codec.specs.declared.fault.RtcpFault.TheVariants.{Short, Version, First, Length, Padding, Body}
use Rattle.rtcp_codec.specs.declared.kind.PacketKind.{PacketKind}
use Rattle.rtcp_codec.specs.declared.kind.PacketKind.TheVariants as kinds
use Rattle.rtcp_codec.specs.Kind.{kind_of}
use Rattle.rtcp_codec.specs.Description.{Item, Chunk, item_octets, chunk_octets, IsFill, FitsItem, FitsChunk, HasChunks}
use Rattle.rtcp_codec.specs.Packet.{Packet}
use Rattle.rtcp_codec.specs.Compound.{version, size, kind_at, is_padded, padding_of, packet_at, body_of, IsReport}
use Rattle.rtcp_codec.specs.Compound.{IsWholeReason, IsWholeBody, IsBadPadding, IsFirstOf, fault_order, IsCompound}
use Rattle.rtcp_codec.specs.Compound.{HasFault}
use Rattle.rtcp_codec.specs.inner.Reading.{HasItems, HasChunk, IsHead, IsGoodPadding, Takes}
use Rattle.rtcp_codec.proofs.Framing.{IsBytes, IsBytes-take, IsBytes-drop}
use Rattle.rtcp_codec.proofs.Lists.{front_of}
use Rattle.rtcp_codec.proofs.Descriptions.{item_at, no_items, items_behind, items_stand, chunk_long, chunk_parts}
use Rattle.rtcp_codec.proofs.Descriptions.{chunks_behind, no_chunks}
use Rattle.rtcp_codec.proofs.WholeBodies.{first_32, body_words, judged_packet, padding_first, body_first}
use Rattle.rtcp_codec.proofs.Compounds.{GoesOn, goes_on_first, goes_on, first_fault, later_fault, is_compound}

-- what holds, or doesn't
abbrev Decided : Type 0 → Type 0
Decided P = P ⊎ (P → ⊥)

at_most : (m n : ℕ) → Decided (m ≤ n)
at_most m n = elim (cases_lt n m) [ inl lt ↦ inr (λ le. omega arith) | inr le ↦ inl le ]

-- ---- source descriptions

-- items and a null at the front
record Items (octets : List ℕ) : Type 0 where
  pub items : List Item
  pub rest : List ℕ
  pub fits : AllByRecursion FitsItem items
  pub parts : octets ≡ flat_map item_octets items ++ 0 ∷ rest
  pub bytes : IsBytes rest

one_more : (i : Item) (octets rest : List ℕ) → FitsItem i → octets ≡ item_octets i ++ rest → Items rest → Items octets
one_more i octets rest fits e r = record {
  items = i ∷ r.items;
  rest = r.rest;
  fits = (fits, r.fits);
  parts = e ∙ ap (λ (l : List ℕ). item_octets i ++ l) r.parts ∙ sym (front_of item_octets i r.items (0 ∷ r.rest));
  bytes = r.bytes;
}

-- n: no fewer than there are octets
some_items : (n : ℕ) (octets : List ℕ) → length octets ≤ n → IsBytes octets → Items octets ⊎ (HasItems octets → ⊥)
some_items n [] few bytes = inr (no_items [] (λ some. absurd (omega arith)) (omega arith))
some_items n (zero ∷ rest) few bytes =
    inl (record { items = []; rest = rest; fits = tt; parts = refl; bytes = λ i. bytes (suc i) })
some_items zero (suc k ∷ more) few bytes = absurd (omega arith)
some_items (suc n) (suc k ∷ more) few bytes =
    let octets : List ℕ = suc k ∷ more in
    let size : ℕ = 2 + get_or octets 1 0 in
    let rest : List ℕ = drop size octets in
    let no_null : 0 < length octets → 0 < get_or octets 0 0 = λ some. omega arith in
    elim (cases_lt (length octets) size) [
      | inl short ↦ inr (no_items octets no_null short)
      | inr long ↦ let i = item_at octets rest bytes no_null long (omega (arith, long)) refl in
          elim (some_items n rest (omega (arith, long, length-drop size octets)) (IsBytes-drop size octets bytes)) [
            | inl r ↦ inl (one_more i.0 octets rest i.1 i.2 r)
            | inr none ↦ inr (λ h. none (items_behind i.0 octets rest i.1 i.2 h))
          ]
    ]

-- a chunk and its fill at the front
record Described (octets : List ℕ) : Type 0 where
  pub chunk : Chunk
  pub fill : List ℕ
  pub rest : List ℕ
  pub fits : FitsChunk chunk
  pub is_fill : IsFill (length (chunk_octets chunk)) fill
  pub parts : octets ≡ chunk_octets chunk ++ (fill ++ rest)
  pub words : length rest % 4 ≡ 0
  pub bytes : IsBytes rest

described : (ssrc : ℕ) (octets behind : List ℕ) → length octets % 4 ≡ 0 → octets ≡ to_be_bytes w32 ssrc ++ behind
    → ssrc < 2 ^ 32 → Items behind → Described octets
described ssrc octets behind words e small r =
    let chunk : Chunk = record { ssrc = ssrc; items = r.items } in
    let over = length r.rest % 4 in
    let rest = drop over r.rest in
    let parts = chunk_parts chunk octets behind r.rest (take over r.rest) rest words e r.parts refl refl in
    record {
      chunk = chunk;
      fill = parts.0;
      rest = rest;
      fits = record { ssrc = small; items = r.fits };
      is_fill = parts.1;
      parts = parts.2;
      words = omega (arith, length-drop over r.rest);
      bytes = IsBytes-drop over r.rest r.bytes;
    }

some_chunk : (octets : List ℕ) → IsBytes octets → length octets % 4 ≡ 0 → Described octets ⊎ (HasChunk octets → ⊥)
some_chunk octets bytes words =
    elim (cases_lt (length octets) 4) [
      | inl short ↦ inr (λ h. omega (arith, short, chunk_long octets h))
      | inr long ↦ let s = first_32 octets bytes long in
          elim (some_items (length s.rest) s.rest (omega arith) s.bytes) [
            | inl r ↦ inl (described s.value octets s.rest words s.parts s.fits r)
            | inr none ↦ inr (λ h. none (items_stand s.value octets s.rest s.parts h))
          ]
    ]

chunks_or_not : (n : ℕ) (octets : List ℕ) → IsBytes octets → length octets % 4 ≡ 0 → Decided (HasChunks n octets)
chunks_or_not zero octets bytes words = inl ([], refl, tt, tt)
chunks_or_not (suc n) octets bytes words =
    elim (some_chunk octets bytes words) [
      | inr none ↦ inr (no_chunks octets n none)
      | inl d ↦ elim (chunks_or_not n d.rest d.bytes d.words) [
        | inl h ↦ inl (d.chunk ∷ h.0, ap suc h.1, (d.fits, h.2), (d.fill, d.rest, d.parts, d.is_fill, h.3))
        | inr none ↦ inr (λ h. none (chunks_behind d.chunk d.fill octets d.rest n d.fits d.is_fill d.parts h))
      ]
    ]

-- ---- bodies

reason_or_not : (octets : List ℕ) → Decided (IsWholeReason octets)
reason_or_not [] = inl tt
reason_or_not (n ∷ octets) = at_most n (length octets)

body_or_not : (k : PacketKind) (n : ℕ) (body : List ℕ) → IsBytes body → length body % 4 ≡ 0
    → Decided (IsWholeBody k n body)
body_or_not kinds.Sender n body bytes words = at_most (24 + 24 * n) (length body)
body_or_not kinds.Receiver n body bytes words = at_most (4 + 24 * n) (length body)
body_or_not kinds.Sdes n body bytes words = chunks_or_not n body bytes words
body_or_not kinds.Bye n body bytes words =
    elim (at_most (4 * n) (length body)) [
      | inr short ↦ inr (λ h. short h.0)
      | inl long ↦
          elim (reason_or_not (drop (4 * n) body)) [ inl whole ↦ inl (long, whole) | inr cut ↦ inr (λ h. cut h.1) ]
    ]
body_or_not kinds.App n body bytes words = at_most 8 (length body)
body_or_not kinds.Nack n body bytes words = at_most 12 (length body)
body_or_not kinds.Pli n body bytes words = at_most 8 (length body)
body_or_not kinds.Other n body bytes words = inl tt

-- ---- the common header

report_or_not : (k : PacketKind) → Decided (IsReport k)
report_or_not kinds.Sender = inl (inl refl)
report_or_not kinds.Receiver = inl (inr refl)
report_or_not kinds.Sdes = inr (λ h. elim h [ inl e ↦ absurd cc | inr e ↦ absurd cc ])
report_or_not kinds.Bye = inr (λ h. elim h [ inl e ↦ absurd cc | inr e ↦ absurd cc ])
report_or_not kinds.App = inr (λ h. elim h [ inl e ↦ absurd cc | inr e ↦ absurd cc ])
report_or_not kinds.Nack = inr (λ h. elim h [ inl e ↦ absurd cc | inr e ↦ absurd cc ])
report_or_not kinds.Pli = inr (λ h. elim h [ inl e ↦ absurd cc | inr e ↦ absurd cc ])
report_or_not kinds.Other = inr (λ h. elim h [ inl e ↦ absurd cc | inr e ↦ absurd cc ])

-- a first fault of these octets
abbrev Faulty : Bool → List ℕ → Type 0
Faulty first octets = (fault : RtcpFault) × IsFirstOf fault_order first fault octets

too_short : (first : Bool) (octets : List ℕ) → length octets < 4 → Faulty first octets
too_short true octets short = (Short, inl ((refl, short), refl))
too_short false octets short = (
  Length,
  inr (
    λ h. absurd (let e = h.0 in cc),
    inr (λ h. omega (arith, h.0, short), inr (λ h. absurd (let e = h.0 in cc), inl (omega (arith, short), refl))),
  ),
)

sized : (first : Bool) (octets : List ℕ) → 4 ≤ length octets → version octets ≡ 2
    → (first ≡ true → IsReport (kind_at octets)) → Faulty first octets ⊎ IsHead first octets
sized first octets long two report =
    elim (cases_lt (length octets) (size octets)) [
      | inl short ↦
          inl (
            Length,
            inr (λ h. omega (arith, h.1, long), inr (λ h. h.1 two, inr (λ h. h.1 (report h.0), inl (short, refl)))),
          )
      | inr whole ↦ inr (record { long = long; is_version = two; report = report; whole = whole })
    ]

begun : (first : Bool) (octets : List ℕ) → 4 ≤ length octets → version octets ≡ 2
    → Faulty first octets ⊎ IsHead first octets
begun false octets long two = sized false octets long two (λ e. absurd cc)
begun true octets long two =
    elim (report_or_not (kind_at octets)) [
      | inl report ↦ sized true octets long two (λ e. report)
      | inr other ↦ inl (First, inr (λ h. omega (arith, h.1, long), inr (λ h. h.1 two, inl ((refl, other), refl))))
    ]

headed : (first : Bool) (octets : List ℕ) → Faulty first octets ⊎ IsHead first octets
headed first octets =
    elim (cases_lt (length octets) 4) [
      | inl short ↦ inl (too_short first octets short)
      | inr long ↦ elim (cases_eq (version octets) 2) [
        | inl two ↦ begun first octets long two
        | inr other ↦ inl (Version, inr (λ h. omega (arith, h.1, long), inl ((long, other), refl)))
      ]
    ]

-- ---- padding

-- whether octets follow
record Ended (rest : List ℕ) : Type 0 where
  pub at_end : Bool
  pub none : at_end ≡ true → rest ≡ []
  pub some : at_end ≡ false → 0 < length rest

ended : (rest : List ℕ) → Ended rest
ended [] = record { at_end = true; none = λ e. refl; some = λ e. absurd cc }
ended (x ∷ xs) = record { at_end = false; none = λ e. absurd cc; some = λ e. omega arith }

counted : (at_end : Bool) (n : ℕ) (packet : List ℕ) → is_padded packet ≡ true
    → IsGoodPadding at_end n packet ⊎ ((at_end ≡ false) ⊎ IsBadPadding n packet)
counted false n packet set = inr (inl refl)
counted true n packet set =
    elim (cases_eq n 0) [
      | inl none ↦ inr (inr (inl none))
      | inr some ↦ elim (cases_eq (n % 4) 0) [
        | inr broken ↦ inr (inr (inr (inl broken)))
        | inl words ↦ elim (cases_lt (length packet) (4 + n)) [
          | inl short ↦ inr (inr (inr (inr short)))
          | inr long ↦
              inl (record {
                none = λ e. absurd (let x = sym set ∙ e in cc);
                last = λ e. refl;
                some = λ e. omega (arith, some);
                words = words;
                size = long;
              })
        ]
      ]
    ]

no_padding : (at_end : Bool) (n : ℕ) (packet : List ℕ) → 4 ≤ length packet → is_padded packet ≡ false → n ≡ 0
    → IsGoodPadding at_end n packet
no_padding at_end n packet long unset none = record {
  none = λ e. none;
  last = λ e. absurd (let x = sym unset ∙ e in cc);
  some = λ e. absurd (let x = sym unset ∙ e in cc);
  words = omega (arith, none);
  size = omega (arith, none, long);
}

padding_by : (at_end padded : Bool) (packet : List ℕ) → 4 ≤ length packet → is_padded packet ≡ padded
    → IsGoodPadding at_end (padding_of packet) packet
    ⊎ ((is_padded packet ≡ true) × ((at_end ≡ false) ⊎ IsBadPadding (padding_of packet) packet))
padding_by at_end false packet long unset =
    inl (no_padding at_end (padding_of packet) packet long unset (rw unset refl))
padding_by at_end true packet long set =
    elim (counted at_end (padding_of packet) packet set) [ inl good ↦ inl good | inr bad ↦ inr (set, bad) ]

-- ---- one packet

abbrev Taken : Bool → List ℕ → Type 0
Taken first octets = (p : Packet) × Takes first p octets (drop (size octets) octets)

bodied : (first at_end : Bool) (octets : List ℕ) → IsBytes octets → IsHead first octets
    → (at_end ≡ true → drop (size octets) octets ≡ [])
    → IsGoodPadding at_end (padding_of (packet_at octets)) (packet_at octets) → Faulty first octets ⊎ Taken first octets
bodied first at_end octets bytes head end good =
    let packet = packet_at octets in
    let rest = drop (size octets) octets in
    let body = body_of packet in
    let n = get_or packet 0 0 % 32 in
    let parts : octets ≡ packet ++ rest = sym (take-append-drop (size octets) octets) in
    let inside : IsBytes body =
    IsBytes-take (length packet - padding_of packet - 4) (drop 4 packet)
    (IsBytes-drop 4 packet (IsBytes-take (size octets) octets bytes)) in
    let words : length body % 4 ≡ 0 = body_words first at_end octets packet body head refl good refl in
    elim (body_or_not (kind_of (get_or packet 1 0) n) n body inside words) [
      | inl whole ↦ inr (judged_packet first at_end octets packet rest body bytes head refl parts end good refl whole)
      | inr lacks ↦ inl (Body, body_first first at_end octets packet rest body head refl parts end good refl lacks)
    ]

padded : (first : Bool) (octets : List ℕ) → IsBytes octets → IsHead first octets
    → Faulty first octets ⊎ Taken first octets
padded first octets bytes head =
    let packet = packet_at octets in
    let rest = drop (size octets) octets in
    let end = ended rest in
    let long : 4 ≤ length packet = omega (arith, head.whole, length-take (size octets) octets) in
    elim (padding_by end.at_end (is_padded packet) packet long refl) [
      | inl good ↦ bodied first end.at_end octets bytes head end.none good
      | inr bad ↦
          inl (
            Padding,
            padding_first first end.at_end octets packet rest head refl (sym (take-append-drop (size octets) octets))
                end.some
                bad,
          )
    ]

one_packet : (first : Bool) (octets : List ℕ) → IsBytes octets → Faulty first octets ⊎ Taken first octets
one_packet first octets bytes =
    elim (headed first octets) [ inl fault ↦ inl fault | inr head ↦ padded first octets bytes head ]

-- ---- all packets

abbrev CompoundOrFault : List ℕ → Type 0
CompoundOrFault octets = ((ps : List Packet) × IsCompound ps octets) ⊎ ((fault : RtcpFault) × HasFault fault octets)

-- what is left of the octets; n: no fewer than there are of it
all_left : (n : ℕ) (rest octets : List ℕ) → length rest ≤ n → IsBytes rest → GoesOn rest octets → CompoundOrFault octets
all_left n [] octets few bytes on = inl (is_compound [] octets on refl)
all_left zero (x ∷ xs) octets few bytes on = absurd (omega arith)
all_left (suc n) (x ∷ xs) octets few bytes on =
    let rest : List ℕ = x ∷ xs in
    let after = drop (size rest) rest in
    elim (one_packet false rest bytes) [
      | inl fault ↦ inr (fault.0, later_fault fault.0 rest octets on (omega arith) fault.1)
      | inr p ↦
          all_left n after octets (omega (arith, few, length-drop (size rest) rest))
          (IsBytes-drop (size rest) rest bytes)
          (goes_on rest after octets p on)
    ]

by_index : (octets : List ℕ) → AreOctets octets → IsBytes octets
by_index [] h i = omega arith
by_index (x ∷ xs) h zero = h.0
by_index (x ∷ xs) h (suc i) = by_index xs h.1 i

pub compound_or_fault : (octets : List ℕ) → AreOctets octets → CompoundOrFault octets
compound_or_fault octets small =
    let bytes = by_index octets small in
    let rest = drop (size octets) octets in
    elim (one_packet true octets bytes) [
      | inl fault ↦ inr (fault.0, first_fault fault.0 octets fault.1)
      | inr p ↦
          all_left (length rest) rest octets (omega arith) (IsBytes-drop (size octets) octets bytes)
          (goes_on_first octets rest p)
    ]
