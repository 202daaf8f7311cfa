-- The line of an item is read as that item.
use Rattle.std.proofs.Common.{◌≡◌, ℕ, ℤ, pos, negsuc, ◌+◌, ◌<◌, ◌≤◌, ◌^◌, false, true, List, [], ◌∷◌, ◌++◌, length, map}
use Rattle.std.proofs.Common.{codes, Some, None, Result, Ok, refl, ap, ◌∙◌, arith, eqb, nat_lt, slice_index}
use Rattle.std.specs.List.{list_all, join_with_byte}
use Rattle.std.specs.Fmt.{decimal, signed_decimal}
use Rattle.std.proofs.Math.Dec.{eqb-suc-zero}
use Rattle.std.proofs.lemmas.Bool.{lt-ltb, le-ltb}
use Rattle.std.proofs.lemmas.Int.{ints}
use Rattle.hex.specs.Hex.{encode_lower}
use Rattle.rtcp_codec.specs.declared.report.ReportBlock.{ReportBlock}
use Rattle.rtcp_codec.specs.Report.{FitsBlock, FitsLost}
use Rattle.frame_gate.specs.Frame.{SourcePacket, fault_of}
use Rattle.sample_codecs.specs.L16.{octets_of}
use Rattle.media_items.specs.Frame.{SourceFrame}
use Rattle.media_items.specs.Inputs.{Input, Sound, Request as Asked, Told, Loss}
use Rattle.media_items.specs.Inputs.Input.{frame, audio, tick, nack, block, pli, report, renew}
use Rattle.desk_text.specs.declared.fault.Fault.{Fault}
use Rattle.desk_text.specs.Lines.{limit_of, is_printable}
use Rattle.desk_text.specs.Words.{words_of}
use Rattle.desk_text.specs.Numbers.{FitsExt, pairs_octets}
use Rattle.desk_text.specs.Values.{AllFit, values_of}
use Rattle.desk_text.proofs.NumberLemmas.{read}
use Rattle.desk_text.proofs.AddressLemmas.{address_again}
use Rattle.desk_text.proofs.ExtLemmas.{ext_read}
use Rattle.desk_text.proofs.ValueLaws.{values_again}
use Rattle.desk_text.proofs.Joined.{parts_joined}
use Rattle.script_text.specs.Packets.{packet_text, AllReadable, source_packets_of}
use Rattle.script_text.specs.Requests.{Request, Item, some_packets, frame_of, front_values, IsFrame, line_request}
use Rattle.script_text.specs.ItemLines.{item_word, spelt_sound, nack_of, block_of, of_24_bits, within_24_bits, lost_of}
use Rattle.script_text.specs.ItemLines.{item_request, later_request, request_of, end_values, block_words}
use Rattle.script_text.specs.ItemLines.{input_words, item_line}
use Rattle.script_text.proofs.PacketLaws.{packet_read}
use Rattle.trace_laws.specs.Items.{IsAudio, IsNack, IsBlock, IsInput}
use Rattle.trace_laws.proofs.VisibleLemmas.{IsWord, AreWords, visible_test, visible_number, visible_signed, visible_hex}
use Rattle.trace_laws.proofs.VisibleLemmas.{visible_ends, visible_front, visible_packets, word_free, words_free}
use Rattle.trace_laws.proofs.VisibleLemmas.{line_printable}
use Rattle.trace_laws.proofs.OctetLemmas.{numbers_bytes, numbers_again, samples_bytes, samples_again, sound_sized}
use Rattle.trace_laws.proofs.OctetLemmas.{rate_again, rate_small}

-- ---- a frame

packets_again : (place : ℕ) (ps : List SourcePacket) → AllReadable ps
    → source_packets_of place (map packet_text ps) ≡ Ok ps
unfolding source_packets_of
packets_again place [] h = refl
packets_again place (p ∷ ps) h = rw (packet_read place p h.0, packets_again (place + 1) ps h.1) refl

some_again : (place : ℕ) (ps : List SourcePacket) → fault_of ps ≡ None
    → some_packets place (map packet_text ps) ≡ source_packets_of place (map packet_text ps)
unfolding fault_of
some_again place [] made = absurd cc
some_again place (p ∷ ps) made = refl

frame_again : (f : SourceFrame) → IsFrame f → item_request (input_words (frame f)) ≡ Ok (Item (frame f))
unfolding item_request frame_of
frame_again f h =
    rw (
      values_again 3 (front_values f) (map packet_text f.frame.packets) h.front,
      some_again 8 f.frame.packets h.made,
      packets_again 8 f.frame.packets h.packets,
      h.made,
    )
    refl

-- ---- sound

audio_again : (s : Sound) → IsAudio s → item_request (input_words (audio s)) ≡ Ok (Item (audio s))
unfolding item_request spelt_sound values_of
audio_again s h =
    let sized = sound_sized s h in
    rw (
      address_again s.address h.from.0,
      read 4294967295 s.source (omega arith) h.from.1.0,
      rate_again s.rate (length s.samples) sized,
      read 4294967295 s.ts (omega arith) (omega (arith, h.ts)),
      samples_again 7 s.rate s.samples sized h.samples,
    )
    refl

-- ---- what a receiver asks for

nack_again : (r : Asked) → IsNack r → item_request (input_words (nack r)) ≡ Ok (Item (nack r))
unfolding item_request nack_of
nack_again r h =
    rw (
      values_again 3 (end_values r.from r.out_ssrc) (encode_lower (pairs_octets r.numbers) ∷ []) h.from,
      numbers_again 5 r.numbers h.some h.numbers,
    )
    refl

pli_again : (l : Loss) → AllFit (end_values l.from l.out_ssrc) → item_request (input_words (pli l)) ≡ Ok (Item (pli l))
unfolding item_request
pli_again l h = rw (values_again 3 (end_values l.from l.out_ssrc) [] h) refl

-- ---- what it reports

of_24 : (z : ℤ) → FitsLost z → of_24_bits z ≡ Some z
of_24 (pos n) h = let small : n < 8388608 = omega (arith, ints, h.high) in rw (lt-ltb n 8388608 small) refl
of_24 (negsuc n) h = let small : n < 8388608 = omega (arith, ints, h.low) in rw (lt-ltb n 8388608 small) refl

lost_fits : (z : ℤ) → FitsLost z → FitsExt z
lost_fits (pos n) h = omega (arith, ints, h.high)
lost_fits (negsuc n) h = omega (arith, ints, h.low)

lost_again : (z : ℤ) → FitsLost z → lost_of (signed_decimal z) ≡ Some z
lost_again z h = ap within_24_bits (ext_read z (lost_fits z h)) ∙ of_24 z h

block_again : (t : Told) → IsBlock t → item_request (input_words (block t)) ≡ Ok (Item (block t))
unfolding item_request block_of values_of
block_again t h =
    rw (
      address_again t.from h.from,
      read 4294967295 t.block.ssrc (omega arith) (omega (arith, h.numbers.ssrc)),
      read 255 t.block.fraction (omega arith) (omega (arith, h.numbers.fraction)),
      lost_again t.block.lost h.lost,
      read 4294967295 t.block.highest (omega arith) (omega (arith, h.numbers.highest)),
      read 4294967295 t.block.jitter (omega arith) (omega (arith, h.numbers.jitter)),
      read 4294967295 t.block.lsr (omega arith) (omega (arith, h.numbers.lsr)),
      read 4294967295 t.block.dlsr (omega arith) (omega (arith, h.numbers.dlsr)),
    )
    refl

-- ---- what its clocks give a lane

tick_again : (moment : ℕ) → moment < 2 ^ 64 → item_request (input_words (tick moment)) ≡ Ok (Item (tick moment))
unfolding item_request values_of
tick_again moment small = rw (read 18446744073709551615 moment (omega arith) (omega (arith, small))) refl

report_again : (moment : ℕ) → moment < 2 ^ 64 → item_request (input_words (report moment)) ≡ Ok (Item (report moment))
unfolding item_request values_of
report_again moment small = rw (read 18446744073709551615 moment (omega arith) (omega (arith, small))) refl

renew_again : item_request (input_words renew) ≡ Ok (Item renew)
unfolding item_request values_of
renew_again = refl

-- ---- the words of all items

words_again : (input : Input) → IsInput input → item_request (input_words input) ≡ Ok (Item input)
words_again (frame f) h = frame_again f h
words_again (audio s) h = audio_again s h
words_again (tick moment) h = tick_again moment h
words_again (nack r) h = nack_again r h
words_again (block t) h = block_again t h
words_again (pli l) h = pli_again l h
words_again (report moment) h = report_again moment h
words_again renew h = renew_again

-- ---- and their octets

frame_visible : (f : SourceFrame) → IsFrame f → AreWords (input_words (frame f))
frame_visible f h =
    let packets = visible_packets f.frame.packets h.packets in
    (visible_test (codes "frame") refl, visible_front f (map packet_text f.frame.packets) h.front packets)

audio_visible : (s : Sound) → IsAudio s → AreWords (input_words (audio s))
audio_visible s h =
    let words = decimal s.rate ∷ decimal s.ts ∷ encode_lower (octets_of s.samples) ∷ [] in
    let rate = visible_number s.rate (rate_small s.rate (length s.samples) (sound_sized s h)) in
    let ts = visible_number s.ts (omega (arith, h.ts)) in
    let samples = visible_hex (octets_of s.samples) (samples_bytes s.samples h.samples) in
    let last : AreWords words = (rate, (ts, (samples, tt))) in
    (visible_test (codes "audio") refl, visible_ends s.address s.source words h.from last)

nack_visible : (r : Asked) → IsNack r → AreWords (input_words (nack r))
nack_visible r h =
    let words = encode_lower (pairs_octets r.numbers) ∷ [] in
    let last : AreWords words = (visible_hex (pairs_octets r.numbers) (numbers_bytes r.numbers h.numbers), tt) in
    (visible_test (codes "nack") refl, visible_ends r.from r.out_ssrc words h.from last)

block_visible : (b : ReportBlock) → FitsBlock b → FitsLost b.lost → AreWords (block_words b)
block_visible b h lost = (
  visible_number b.fraction (omega (arith, h.fraction)),
  (
    visible_signed b.lost (lost_fits b.lost lost),
    (
      visible_number b.highest (omega (arith, h.highest)),
      (
        visible_number b.jitter (omega (arith, h.jitter)),
        (visible_number b.lsr (omega (arith, h.lsr)), (visible_number b.dlsr (omega (arith, h.dlsr)), tt)),
      ),
    ),
  ),
)

told_visible : (t : Told) → IsBlock t → AreWords (input_words (block t))
told_visible t h =
    let ends : AllFit (end_values t.from t.block.ssrc) = (h.from, (omega (arith, h.numbers.ssrc), tt)) in
    let last = block_visible t.block h.numbers h.lost in
    (visible_test (codes "block") refl, visible_ends t.from t.block.ssrc (block_words t.block) ends last)

input_visible : (input : Input) → IsInput input → AreWords (input_words input)
input_visible (frame f) h = frame_visible f h
input_visible (audio s) h = audio_visible s h
input_visible (tick moment) h = (visible_test (codes "tick") refl, (visible_number moment h, tt))
input_visible (nack r) h = nack_visible r h
input_visible (block t) h = told_visible t h
input_visible (pli l) h = (visible_test (codes "pli") refl, visible_ends l.from l.out_ssrc [] h tt)
input_visible (report moment) h = (visible_test (codes "report") refl, (visible_number moment h, tt))
input_visible renew h = (visible_test (codes "renew") refl, tt)

-- ---- a line

word_visible : IsWord item_word
word_visible = visible_test (codes "item") refl

pub words_read : (input : Input) → IsInput input → later_request (words_of (item_line input)) ≡ Ok (Item input)
words_read input h =
    let free = words_free (input_words input) (input_visible input h) in
    ap later_request (parts_joined 32 item_word (input_words input) (word_free item_word word_visible) free)
    ∙ words_again input h

-- what a line asks for that hands the lane an item by its first octets
asked_of : (asked : Result Request (ℕ × Fault)) (line rest : List ℕ) → line ≡ codes "item " ++ rest
    → length line ≤ 8388608 → list_all is_printable line ≡ true → line_request asked line ≡ asked
unfolding line_request
asked_of asked line rest is few seen =
    let limit : limit_of line ≡ 8388608 = rw is refl in
    let short : nat_lt (limit_of line) (length line) ≡ false = rw limit (le-ltb 8388608 (length line) few) in
    let some : eqb (length line) 0 ≡ false = rw is (eqb-suc-zero (length (codes "tem " ++ rest))) in
    let first : eqb (slice_index line 0) 35 ≡ false = rw is refl in
    rw (short, seen, some, first) refl

-- so do the lines of all items
line_begins : (input : Input) → item_line input ≡ codes "item " ++ join_with_byte 32 (input_words input)
line_begins (frame f) = refl
line_begins (audio s) = refl
line_begins (tick moment) = refl
line_begins (nack r) = refl
line_begins (block t) = refl
line_begins (pli l) = refl
line_begins (report moment) = refl
line_begins renew = refl

pub line_read : (input : Input) → IsInput input → length (item_line input) ≤ 8388608
    → request_of (item_line input) ≡ Ok (Item input)
line_read input h few =
    let seen = line_printable item_word (input_words input) word_visible (input_visible input h) in
    asked_of (later_request (words_of (item_line input))) (item_line input) (join_with_byte 32 (input_words input))
    (line_begins input) few seen
    ∙ words_read input h

pub item_printable : (input : Input) → IsInput input → list_all is_printable (item_line input) ≡ true
item_printable input h = line_printable item_word (input_words input) word_visible (input_visible input h)
