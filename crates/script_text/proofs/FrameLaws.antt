-- The laws of the lines of frames.
use Rattle.std.proofs.Common.{◌≡◌, ℕ, ℤ, pos, negsuc, zero, suc, ◌+◌, ◌/◌, ◌%◌, List, [], ◌∷◌, ◌++◌, get_or, Option}
use Rattle.std.proofs.Common.{Some, None, Result, Ok, refl, sym, ap, ◌∙◌, subst, map, arith, not, eqb, ◌&&◌, Bool, true}
use Rattle.std.proofs.Common.{false, codes}
use Rattle.std.specs.List.{list_all, join_with_byte}
use Rattle.std.specs.Fmt.{signed_decimal}
use Rattle.std.proofs.lemmas.List.Splits.{join_with_byte-slice_split}
use Rattle.hex.specs.Hex.{encode_lower, encode_with, lower_digits}
use Rattle.frame_gate.specs.declared.frame.FrameFault.{FrameFault}
use Rattle.frame_gate.specs.Frame.{SourcePacket, fault_of}
use Rattle.media_items.specs.Frame.{SourceFrame}
use Rattle.media_items.specs.Inputs.{Input}
use Rattle.media_items.specs.Inputs.Input.{frame}
use Rattle.desk_text.specs.declared.fault.Fault.{Fault}
use Rattle.desk_text.specs.declared.fault.Fault.TheVariants.{UnknownWord}
use Rattle.desk_text.specs.declared.value.Value.{Value}
use Rattle.desk_text.specs.Words.{words_of, word_at, none_left, value_or}
use Rattle.desk_text.specs.Numbers.{FitsExt}
use Rattle.desk_text.specs.Values.{field_of, value_text, AllFit, values_of}
use Rattle.desk_text.specs.Calls.{call_of}
use Rattle.desk_text.proofs.Joined.{Free, AllFree, free_test, free_append, free_number, parts_joined}
use Rattle.desk_text.proofs.ValueLaws.{found_text, free_values, bind_ok, word_back, or_back, values_back, values_again}
use Rattle.desk_text.proofs.CommandLaws.{read_from, with_field, read_all}
use Rattle.script_text.specs.declared.name.LineKind.{LineKind}
use Rattle.script_text.specs.declared.name.LineKind.TheVariants as kinds
use Rattle.script_text.specs.Packets.{marker_text, packet_text, packet_of, source_packets_of, IsReadable, AllReadable}
use Rattle.script_text.specs.Packets.{SpellPackets}
use Rattle.script_text.specs.Requests.{Request, Item, kind_text, line_kind_of, line_kinds, front_of, some_packets}
use Rattle.script_text.specs.Requests.{some_octets, rx_of, sighted, framed, frame_of, request_with, words_request}
use Rattle.script_text.specs.Requests.{front_values, frame_words, frame_line, IsFrame}
use Rattle.script_text.proofs.PacketLaws.{packet_read, packet_spelled}
use Rattle.script_text.proofs.KindLaws.{kind_free}

-- ---- no space in a packet's word

digit_free : (table : List ℕ) (k : ℕ) → list_all (λ b. not (eqb b 32)) table ≡ true → eqb (get_or table k 0) 32 ≡ false
digit_free [] k h = refl
digit_free (x ∷ xs) zero h = (free_test 32 (x ∷ xs) h).0
digit_free (x ∷ xs) (suc k) h = digit_free xs k (rest (not (eqb x 32)) (list_all (λ b. not (eqb b 32)) xs) h)
  where
    rest : (a b : Bool) → (a && b) ≡ true → b ≡ true
    rest true b e = e
    rest false b e = absurd cc

pub hex_free : (octets : List ℕ) → Free 32 (encode_lower octets)
unfolding encode_with
hex_free [] = tt
hex_free (b ∷ rest) = (digit_free lower_digits (b / 16) refl, (digit_free lower_digits (b % 16) refl, hex_free rest))

ext_free : (z : ℤ) → FitsExt z → Free 32 (signed_decimal z)
ext_free (pos n) small = free_number n (omega (arith, small))
ext_free (negsuc n) small = (refl, free_number (suc n) (omega (arith, small)))

marker_free : (marker : Bool) → Free 32 (marker_text marker)
marker_free true = free_number 1 (omega arith)
marker_free false = free_number 0 (omega arith)

packet_free : (p : SourcePacket) → IsReadable p → Free 32 (packet_text p)
packet_free p h =
    let join = free_append 32 in
    let slash : Free 32 (codes "/") = (refl, tt) in
    join _ _
    (join _ _
    (join _ _ (join _ _ (join _ _ (join _ _ (ext_free p.ext h.ext) slash) (marker_free p.marker)) slash)
    (free_number p.pt (omega (arith, h.pt))))
    slash)
    (hex_free p.payload)

packets_free : (ps : List SourcePacket) → AllReadable ps → AllFree 32 (map packet_text ps)
packets_free [] h = tt
packets_free (p ∷ ps) h = (packet_free p h.0, packets_free ps h.1)

pub all_append : (ws vs : List (List ℕ)) → AllFree 32 ws → AllFree 32 vs → AllFree 32 (ws ++ vs)
all_append [] vs h k = k
all_append (w ∷ ws) vs h k = (h.0, all_append ws vs h.1 k)

-- ---- packets, word by word

packets_again : (place : ℕ) (ps : List SourcePacket) → AllReadable ps
    → source_packets_of place (map packet_text ps) ≡ Ok ps
unfolding source_packets_of
packets_again place [] h = refl
packets_again place (p ∷ ps) h = rw (packet_read place p h.0, packets_again (place + 1) ps h.1) refl

packets_back : (place : ℕ) (words : List (List ℕ)) (ps : List SourcePacket) → source_packets_of place words ≡ Ok ps
    → SpellPackets words ps × AllReadable ps
unfolding source_packets_of
packets_back place [] ps e =
    let none : [] ≡ ps = cc in subst (λ (x : List SourcePacket). SpellPackets [] x × AllReadable x) none (tt, tt)
packets_back place (word ∷ words) ps e =
    let p = bind_ok (packet_of place word) _ ps e in
    let o = bind_ok (source_packets_of (place + 1) words) _ ps p.2 in
    let is : p.0 ∷ o.0 ≡ ps = cc (o.2) in
    let first = packet_spelled place word p.0 p.1 in
    let others = packets_back (place + 1) words o.0 o.1 in
    subst (λ (x : List SourcePacket). SpellPackets (word ∷ words) x × AllReadable x) is
    ((first.0, others.0), (first.1, others.1))

some_again : (place : ℕ) (ps : List SourcePacket) → fault_of ps ≡ None
    → some_packets place (map packet_text ps) ≡ source_packets_of place (map packet_text ps)
unfolding fault_of
some_again place [] made = absurd cc
some_again place (p ∷ ps) made = refl

some_back : (place : ℕ) (words : List (List ℕ)) (ps : List SourcePacket) → some_packets place words ≡ Ok ps
    → source_packets_of place words ≡ Ok ps
some_back place [] ps e = absurd cc
some_back place (word ∷ words) ps e = e

-- ---- a line

words_again : (f : SourceFrame) → IsFrame f
    → words_request (frame_words f (map packet_text f.frame.packets)) ≡ Ok (Item (frame f))
unfolding words_request frame_of
words_again f h =
    let texts = map packet_text f.frame.packets in
    rw (
      values_again 2 (front_values f) texts h.front,
      some_again 7 f.frame.packets h.made,
      packets_again 7 f.frame.packets h.packets,
      h.made,
    )
    refl

pub frame_again : (f : SourceFrame) → IsFrame f → words_request (words_of (frame_line f)) ≡ Ok (Item (frame f))
frame_again f h =
    let texts = map packet_text f.frame.packets in
    let free =
    all_append (map value_text (front_values f)) texts (free_values (front_values f) h.front)
    (packets_free f.frame.packets h.packets) in
    ap words_request (parts_joined 32 (kind_text kinds.Frame) (map value_text (front_values f) ++ texts)
    (free_test 32 (kind_text kinds.Frame) (kind_free kinds.Frame)) free)
    ∙ words_again f h

same_item : (a b : Input) (r : Result Request (ℕ × Fault)) → r ≡ Ok (Item a) → r ≡ Ok (Item b) → a ≡ b
same_item a b r e f = cc

same_frame : (a b : SourceFrame) → frame a ≡ frame b → a ≡ b
same_frame a b e = cc

framed_back : (sighting f : SourceFrame) (fault : Option FrameFault) → framed 7 sighting fault ≡ Ok (Item (frame f))
    → (fault ≡ None) × (sighting ≡ f)
framed_back sighting f None e = (refl, same_frame sighting f (same_item (frame sighting) (frame f) _ refl e))
framed_back sighting f (Some fault) e = absurd cc

frame_by : (kind : LineKind) (vs : List Value) (words : List (List ℕ)) (f : SourceFrame)
    → request_with kind vs words ≡ Ok (Item (frame f))
    → (kind ≡ kinds.Frame) × (ps : List SourcePacket) × (source_packets_of 7 words ≡ Ok ps) × (fault_of ps ≡ None)
    × (sighted vs ps ≡ f)
unfolding frame_of rx_of
frame_by kinds.Desk vs words f e = let c = bind_ok (call_of 2 words) _ (Item (frame f)) e in absurd cc
frame_by kinds.Rx vs words f e =
    let w = bind_ok (word_at 4 words) _ (Item (frame f)) e in
    let o = bind_ok (some_octets 4 w.0.0) _ (Item (frame f)) w.2 in
    let n = bind_ok (none_left 5 w.0.1) _ (Item (frame f)) o.2 in
    absurd cc
frame_by kinds.Wait vs words f e = let none = bind_ok (none_left 5 words) _ (Item (frame f)) e in absurd cc
frame_by kinds.Tick vs words f e = let none = bind_ok (none_left 3 words) _ (Item (frame f)) e in absurd cc
frame_by kinds.Report vs words f e = let none = bind_ok (none_left 3 words) _ (Item (frame f)) e in absurd cc
frame_by kinds.Show vs words f e = let none = bind_ok (none_left 2 words) _ (Item (frame f)) e in absurd cc
frame_by kinds.Frame vs words f e =
    let p = bind_ok (some_packets 7 words) _ (Item (frame f)) e in
    let made = framed_back (sighted vs p.0) f (fault_of p.0) p.2 in
    (refl, p.0, some_back 7 words p.0 p.1, made.0, made.1)

front_is : (vs : List Value) (ps : List SourcePacket) → map field_of vs ≡ front_of kinds.Frame
    → vs ≡ front_values (sighted vs ps)
unfolding read_from with_field
front_is vs ps h = sym (read_all (front_of kinds.Frame) vs h)

pub frame_back : (line : List ℕ) (f : SourceFrame) → words_request (words_of line) ≡ Ok (Item (frame f))
    → (packets : List (List ℕ)) × (line ≡ join_with_byte 32 (frame_words f packets))
    × SpellPackets packets f.frame.packets × IsFrame f
unfolding words_request
frame_back line f e =
    let w = bind_ok (word_at 1 (words_of line)) _ (Item (frame f)) e in
    let k = bind_ok (value_or 1 UnknownWord (line_kind_of w.0.0)) _ (Item (frame f)) w.2 in
    let r = bind_ok (values_of 2 (front_of k.0) w.0.1) _ (Item (frame f)) k.2 in
    let d = frame_by k.0 r.0.0 r.0.1 f r.2 in
    let v = values_back 2 (front_of k.0) w.0.1 r.0 r.1 in
    let front : r.0.0 ≡ front_values f = front_is r.0.0 d.1 (v.1 ∙ ap front_of d.0) ∙ ap front_values d.4 in
    let packets = packets_back 7 r.0.1 d.1 d.2 in
    let same : d.1 ≡ f.frame.packets = ap (λ (g : SourceFrame). g.frame.packets) d.4 in
    let first : w.0.0 ≡ kind_text kinds.Frame =
    found_text kind_text w.0.0 line_kinds k.0 (or_back 1 UnknownWord (line_kind_of w.0.0) k.0 k.1) ∙ ap kind_text d.0 in
    let others : w.0.1 ≡ map value_text (front_values f) ++ r.0.1 =
    v.0 ∙ ap (λ (vs : List Value). map value_text vs ++ r.0.1) front in
    let all : words_of line ≡ frame_words f r.0.1 =
    word_back 1 (words_of line) w.0 w.1
    ∙ (ap (λ (t : List ℕ). t ∷ w.0.1) first ∙ ap (λ (t : List (List ℕ)). kind_text kinds.Frame ∷ t) others) in (
      r.0.1,
      sym (join_with_byte-slice_split 32 line) ∙ ap (join_with_byte 32) all,
      subst (λ (ps : List SourcePacket). SpellPackets r.0.1 ps) same packets.0,
      record {
        front = subst AllFit front v.2;
        packets = subst AllReadable same packets.1;
        made = subst (λ (ps : List SourcePacket). fault_of ps ≡ None) same d.3;
      },
    )
