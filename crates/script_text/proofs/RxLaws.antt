-- The laws of the lines of datagrams.
use Rattle.std.proofs.Common.{◌≡◌, ◌≢◌, ℕ, ◌/◌, ◌%◌, get_or, List, [], ◌∷◌, ◌++◌, length, Option, Some, None, Ok, refl}
use Rattle.std.proofs.Common.{sym, ap, ◌∙◌, subst, map}
use Rattle.std.specs.List.{join_with_byte}
use Rattle.std.proofs.lemmas.List.Splits.{join_with_byte-slice_split}
use Rattle.std.proofs.Math.Dec.{eqb-suc-zero}
use Rattle.hex.specs.Hex.{decode_of, encode_lower, encode_with, lower_digits}
use Rattle.hex.proofs.HexLemmas.{decode_of-encode_lower}
use Rattle.rtp_codec.specs.declared.address.Address.{Address}
use Rattle.frame_gate.specs.declared.frame.FrameFault.{FrameFault}
use Rattle.frame_gate.specs.Frame.{fault_of}
use Rattle.media_items.specs.Frame.{SourceFrame}
use Rattle.desk_text.specs.declared.fault.Fault.TheVariants.{UnknownWord}
use Rattle.desk_text.specs.declared.value.Value.{Value}
use Rattle.desk_text.specs.declared.value.Value.TheVariants as values
use Rattle.desk_text.specs.Words.{words_of, word_at, none_left, value_or}
use Rattle.desk_text.specs.Values.{field_of, value_text, AllFit, values_of, number_at, address_at}
use Rattle.desk_text.specs.Calls.{call_of}
use Rattle.desk_text.proofs.Joined.{free_test, parts_joined}
use Rattle.desk_text.proofs.ValueLaws.{found_text, free_values, bind_ok, word_back, or_back, values_back, values_again}
use Rattle.desk_text.proofs.CommandLaws.{read_from, with_field, read_all}
use Rattle.script_text.specs.declared.name.LineKind.{LineKind}
use Rattle.script_text.specs.declared.name.LineKind.TheVariants as kinds
use Rattle.script_text.specs.Packets.{octets_or, SpellsHex}
use Rattle.script_text.specs.Requests.{Rx, kind_text, line_kind_of, line_kinds, front_of, some_packets, sighted, framed}
use Rattle.script_text.specs.Requests.{frame_of, some_octets, rx_of, request_with, words_request, rx_words, rx_line}
use Rattle.script_text.specs.Requests.{IsDatagram}
use Rattle.script_text.proofs.PacketLaws.{hex_spelled, octets_back}
use Rattle.script_text.proofs.FrameLaws.{hex_free, all_append}
use Rattle.script_text.proofs.KindLaws.{kind_free}

-- the values that stand first
abbrev front : ℕ → Address → List Value
front moment from = values.U64 moment ∷ values.Address from ∷ []

some_is : (x : ℕ) (xs : List ℕ) → some_octets 4 (x ∷ xs) ≡ octets_or 4 (decode_of (x ∷ xs))
some_is x xs = rw (eqb-suc-zero (length xs)) refl

some_again : (octets : List ℕ) → octets ≢ []
    → some_octets 4 (encode_lower octets) ≡ octets_or 4 (decode_of (encode_lower octets))
unfolding encode_with
some_again [] some = absurd (some refl)
some_again (x ∷ xs) some = some_is (get_or lower_digits (x / 16) 0) (get_or lower_digits (x % 16) 0 ∷ encode_lower xs)

words_again : (moment : ℕ) (from : Address) (octets : List ℕ) → IsDatagram moment from octets
    → words_request (rx_words moment from (encode_lower octets)) ≡ Ok (Rx moment from octets)
unfolding words_request rx_of
words_again moment from octets h =
    rw (
      values_again 2 (front moment from) (encode_lower octets ∷ []) h.front,
      some_again octets h.some,
      decode_of-encode_lower octets h.bytes,
    )
    refl

pub rx_again : (moment : ℕ) (from : Address) (octets : List ℕ) → IsDatagram moment from octets
    → words_request (words_of (rx_line moment from octets)) ≡ Ok (Rx moment from octets)
rx_again moment from octets h =
    let text = encode_lower octets in
    let free =
    all_append (map value_text (front moment from)) (text ∷ []) (free_values (front moment from) h.front)
    (hex_free octets, tt) in
    ap words_request (parts_joined 32 (kind_text kinds.Rx) (map value_text (front moment from) ++ text ∷ [])
    (free_test 32 (kind_text kinds.Rx) (kind_free kinds.Rx)) free)
    ∙ words_again moment from octets h

-- ---- what is read as a datagram

not_none : (x : ℕ) (xs : List ℕ) → SpellsHex (x ∷ xs) [] → ⊥
unfolding encode_with
not_none x xs e = absurd cc

some_back : (word octets : List ℕ) → some_octets 4 word ≡ Ok octets → (decode_of word ≡ Ok octets) × (octets ≢ [])
some_back [] octets e = absurd cc
some_back (x ∷ xs) octets e =
    let read = octets_back 4 (decode_of (x ∷ xs)) octets (sym (some_is x xs) ∙ e) in (
      read,
      λ none. not_none x xs (subst (λ (o : List ℕ). SpellsHex (x ∷ xs) o) none (hex_spelled (x ∷ xs) octets read).0),
    )

pub none_back : (words : List (List ℕ)) (u : Unit {0}) → none_left 5 words ≡ Ok u → words ≡ []
none_back [] u e = refl
none_back (w ∷ ws) u e = absurd cc

rx_by : (kind : LineKind) (vs : List Value) (words : List (List ℕ)) (moment : ℕ) (from : Address) (octets : List ℕ)
    → request_with kind vs words ≡ Ok (Rx moment from octets)
    → (kind ≡ kinds.Rx) × (word : List ℕ) × (words ≡ word ∷ []) × (some_octets 4 word ≡ Ok octets)
    × (number_at 0 vs ≡ moment) × (address_at 1 vs ≡ from)
unfolding frame_of rx_of
rx_by kinds.Desk vs words moment from octets e =
    let c = bind_ok (call_of 2 words) _ (Rx moment from octets) e in absurd cc
rx_by kinds.Wait vs words moment from octets e =
    let none = bind_ok (none_left 5 words) _ (Rx moment from octets) e in absurd cc
rx_by kinds.Tick vs words moment from octets e =
    let none = bind_ok (none_left 3 words) _ (Rx moment from octets) e in absurd cc
rx_by kinds.Report vs words moment from octets e =
    let none = bind_ok (none_left 3 words) _ (Rx moment from octets) e in absurd cc
rx_by kinds.Show vs words moment from octets e =
    let none = bind_ok (none_left 2 words) _ (Rx moment from octets) e in absurd cc
rx_by kinds.Frame vs words moment from octets e =
    let p = bind_ok (some_packets 7 words) _ (Rx moment from octets) e in
    never (sighted vs p.0) (fault_of p.0) p.2
  where
    never : (sighting : SourceFrame) (fault : Option FrameFault) {P : Type 0}
        → framed 7 sighting fault ≡ Ok (Rx moment from octets) → P
    never sighting None e = absurd cc
    never sighting (Some fault) e = absurd cc
rx_by kinds.Rx vs words moment from octets e =
    let w = bind_ok (word_at 4 words) _ (Rx moment from octets) e in
    let o = bind_ok (some_octets 4 w.0.0) _ (Rx moment from octets) w.2 in
    let n = bind_ok (none_left 5 w.0.1) _ (Rx moment from octets) o.2 in
    let is : Rx (number_at 0 vs) (address_at 1 vs) o.0 ≡ Rx moment from octets = cc (n.2) in
    let same : o.0 ≡ octets = cc in (
      refl,
      w.0.0,
      word_back 4 words w.0 w.1 ∙ ap (λ (t : List (List ℕ)). w.0.0 ∷ t) (none_back w.0.1 n.0 n.1),
      o.1 ∙ ap Ok same,
      cc,
      cc,
    )

-- the values of the two fields
front_of_two : (vs : List Value) → map field_of vs ≡ front_of kinds.Rx → vs ≡ front (number_at 0 vs) (address_at 1 vs)
unfolding read_from with_field
front_of_two vs h = sym (read_all (front_of kinds.Rx) vs h)

pub rx_back : (line : List ℕ) (moment : ℕ) (from : Address) (octets : List ℕ)
    → words_request (words_of line) ≡ Ok (Rx moment from octets)
    → (word : List ℕ) × (line ≡ join_with_byte 32 (rx_words moment from word)) × SpellsHex word octets
    × IsDatagram moment from octets
unfolding words_request
rx_back line moment from octets e =
    let w = bind_ok (word_at 1 (words_of line)) _ (Rx moment from octets) e in
    let k = bind_ok (value_or 1 UnknownWord (line_kind_of w.0.0)) _ (Rx moment from octets) w.2 in
    let r = bind_ok (values_of 2 (front_of k.0) w.0.1) _ (Rx moment from octets) k.2 in
    let d = rx_by k.0 r.0.0 r.0.1 moment from octets r.2 in
    let v = values_back 2 (front_of k.0) w.0.1 r.0 r.1 in
    let first : w.0.0 ≡ kind_text kinds.Rx =
    found_text kind_text w.0.0 line_kinds k.0 (or_back 1 UnknownWord (line_kind_of w.0.0) k.0 k.1) ∙ ap kind_text d.0 in
    let values : r.0.0 ≡ front moment from =
    front_of_two r.0.0 (v.1 ∙ ap front_of d.0)
    ∙ (ap (λ (n : ℕ). front n (address_at 1 r.0.0)) d.4 ∙ ap (front moment) d.5) in
    let others : w.0.1 ≡ map value_text (front moment from) ++ d.1 ∷ [] =
    v.0
    ∙ (ap (λ (vs : List Value). map value_text vs ++ r.0.1) values
    ∙ ap (λ (t : List (List ℕ)). map value_text (front moment from) ++ t) d.2) in
    let all : words_of line ≡ rx_words moment from d.1 =
    word_back 1 (words_of line) w.0 w.1
    ∙ (ap (λ (t : List ℕ). t ∷ w.0.1) first ∙ ap (λ (t : List (List ℕ)). kind_text kinds.Rx ∷ t) others) in
    let read = some_back d.1 octets d.3 in
    let spelled = hex_spelled d.1 octets read.0 in (
      d.1,
      sym (join_with_byte-slice_split 32 line) ∙ ap (join_with_byte 32) all,
      spelled.0,
      record { front = subst AllFit values v.2; bytes = spelled.1; some = read.1 },
    )
