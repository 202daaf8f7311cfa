-- Lines that hand the lane an item (own).
use Rattle.std.specs.Prelude.{◌≡◌, ◌≢◌, ℕ, ℤ, pos, negsuc, ◌+◌, ◌*◌, ◌%◌, ◌<◌, ◌≤◌, Bool, ◌&&◌, List, [], ◌∷◌}
use Rattle.std.specs.Prelude.{◌++◌, map, length, nat_eq, nat_lt, nat_le, codes, true, Option, Some, None, Result}
use Rattle.std.specs.Prelude.{Ok, Err, if◌then◌else◌}
use Rattle.std.specs.List.{find, join_with_byte}
use Rattle.std.specs.Str.{bytes_eq}
use Rattle.std.specs.Fmt.{decimal, signed_decimal}
use Rattle.hex.specs.Hex.{encode_lower, decode_of}
use Rattle.rtp_codec.specs.declared.address.Address.{Address as Endpoint}
use Rattle.rtcp_codec.specs.declared.report.ReportBlock.{ReportBlock}
use Rattle.sample_codecs.specs.L16.{samples_of, octets_of}
use Rattle.media_items.specs.Inputs.{Input, Sound, Request as Asked, Told, Loss, most_at}
use Rattle.media_items.specs.Inputs.Input.{frame, audio, tick, nack, block, pli, report, renew}
use Rattle.desk_text.specs.declared.fault.Fault.{Fault}
use Rattle.desk_text.specs.declared.fault.Fault.TheVariants.{UnknownWord, BadNumber, BadHex}
use Rattle.desk_text.specs.declared.value.Field.{Field}
use Rattle.desk_text.specs.declared.value.Field.TheVariants as fields
use Rattle.desk_text.specs.declared.value.Value.{Value}
use Rattle.desk_text.specs.declared.value.Value.TheVariants.{U32, U64, Address}
use Rattle.desk_text.specs.Words.{◌>>=◌, words_of, word_at, none_left, value_or}
use Rattle.desk_text.specs.Numbers.{decimal_of, ext_of, pairs_octets}
use Rattle.desk_text.specs.Values.{value_text, values_of, number_at, address_at}
use Rattle.script_text.specs.declared.name.ItemKind.{ItemKind}
use Rattle.script_text.specs.declared.name.ItemKind.TheVariants as kinds
use Rattle.script_text.specs.Packets.{packet_text, octets_or}
use Rattle.script_text.specs.Requests.{Request, Item, sighted, frame_of, front_values, words_request, line_request}

-- the first word of such a line
abbrev pub item_word : List ℕ
item_word = codes "item"

-- how the kind of an item is written
abbrev pub item_kind_text : ItemKind → List ℕ
item_kind_text kinds.Frame = codes "frame"
item_kind_text kinds.Audio = codes "audio"
item_kind_text kinds.Tick = codes "tick"
item_kind_text kinds.Nack = codes "nack"
item_kind_text kinds.Block = codes "block"
item_kind_text kinds.Pli = codes "pli"
item_kind_text kinds.Report = codes "report"
item_kind_text kinds.Renew = codes "renew"

-- the kinds of items
abbrev pub item_kinds : List ItemKind
item_kinds =
    kinds.Frame ∷ kinds.Audio ∷ kinds.Tick ∷ kinds.Nack ∷ kinds.Block ∷ kinds.Pli ∷ kinds.Report ∷ kinds.Renew ∷ []

-- the kind of item that a word names
abbrev pub item_kind_of : List ℕ → Option ItemKind
item_kind_of word = find (λ kind. bytes_eq word (item_kind_text kind)) item_kinds

-- the fields that stand first behind it: MOMENT ADDRESS SSRC EPOCH TS; MOMENT of a tick and of a report; ADDRESS SSRC
abbrev pub item_front_of : ItemKind → List Field
item_front_of kinds.Frame = fields.U64 ∷ fields.Address ∷ fields.U32 ∷ fields.U64 ∷ fields.U32 ∷ []
item_front_of kinds.Audio = fields.Address ∷ fields.U32 ∷ []
item_front_of kinds.Tick = fields.U64 ∷ []
item_front_of kinds.Nack = fields.Address ∷ fields.U32 ∷ []
item_front_of kinds.Block = fields.Address ∷ fields.U32 ∷ []
item_front_of kinds.Pli = fields.Address ∷ fields.U32 ∷ []
item_front_of kinds.Report = fields.U64 ∷ []
item_front_of kinds.Renew = []

-- the clock rate that a word spells: 8000 or 44100 (RFC 3551 sections 4.5.11 and 4.5.14)
abbrev pub clock_of : List ℕ → Option ℕ
clock_of word =
    if bytes_eq word (codes "8000") then Some 8000 else if bytes_eq word (codes "44100") then Some 44100 else None

-- octets are samples of this rate, two octets each: one sample at least, and 200 ms at most
abbrev pub is_sound : ℕ → List ℕ → Bool
is_sound rate octets =
    nat_eq (length octets % 2) 0 && (nat_le 2 (length octets) && nat_le (length octets) (2 * most_at rate))

-- the samples that octets at this place are, if they are some
abbrev pub samples_or : ℕ → ℕ → List ℕ → Result (List ℤ) (ℕ × Fault)
samples_or place rate octets = if is_sound rate octets then Ok (samples_of octets) else Err (place, BadHex)

-- the samples that a word at this place spells in hexadecimal
unfoldable pub samples_at : ℕ → ℕ → List ℕ → Result (List ℤ) (ℕ × Fault)
samples_at place rate word = do
  octets ← octets_or place (decode_of word)
  samples_or place rate octets

-- the sound of a source, by the words RATE TS HEX from place 5 on
unfoldable pub spelt_sound : Endpoint → (ssrc : ℕ) → List (List ℕ) → Result Request (ℕ × Fault)
spelt_sound from ssrc words = do
  word ← word_at 5 words
  rate ← value_or 5 BadNumber (clock_of word.0)
  ts ← values_of 6 (fields.U32 ∷ []) word.1
  hex ← word_at 7 ts.1
  samples ← samples_at 7 rate hex.0
  end ← none_left 8 hex.1
  Ok (Item (audio record { source = ssrc; address = from; rate = rate; ts = number_at 0 ts.0; samples = samples }))

-- the number of two octets, the most significant first
abbrev pub pair_number : ℕ → ℕ → ℕ
pair_number high low = 256 * high + low

-- the numbers that octets are, two octets each
abbrev pub pair_numbers : List ℕ → List ℕ
pair_numbers [] = []
pair_numbers (over ∷ []) = []
pair_numbers (high ∷ low ∷ octets) = pair_number high low ∷ pair_numbers octets

-- the numbers that octets at this place are, if they are some
abbrev pub numbers_or : ℕ → List ℕ → Result (List ℕ) (ℕ × Fault)
numbers_or place octets =
    if nat_eq (length octets % 2) 0 && nat_le 2 (length octets) then Ok (pair_numbers octets) else Err (place, BadHex)

-- the numbers that a word at this place spells in hexadecimal
unfoldable pub numbers_at : ℕ → List ℕ → Result (List ℕ) (ℕ × Fault)
numbers_at place word = do
  octets ← octets_or place (decode_of word)
  numbers_or place octets

-- who asks for packets of a stream again, and for which, by the word HEX at place 5
unfoldable pub nack_of : Endpoint → (ssrc : ℕ) → List (List ℕ) → Result Request (ℕ × Fault)
nack_of from ssrc words = do
  hex ← word_at 5 words
  numbers ← numbers_at 5 hex.0
  end ← none_left 6 hex.1
  Ok (Item (nack record { from = from; out_ssrc = ssrc; numbers = numbers }))

-- a signed number, if it has 24 bits
abbrev pub of_24_bits : ℤ → Option ℤ
of_24_bits (pos n) = if nat_lt n 8388608 then Some (pos n) else None
of_24_bits (negsuc n) = if nat_lt n 8388608 then Some (negsuc n) else None

-- the same of a number that may not have been spelled
abbrev pub within_24_bits : Option ℤ → Option ℤ
within_24_bits None = None
within_24_bits (Some z) = of_24_bits z

-- the count of lost packets that a word spells, of 24 bits with a sign (RFC 3550 section 6.4.1)
abbrev pub lost_of : List ℕ → Option ℤ
lost_of word = within_24_bits (ext_of word)

-- the last fields of a report block: HIGHEST JITTER LSR DLSR
abbrev pub block_fields : List Field
block_fields = fields.U32 ∷ fields.U32 ∷ fields.U32 ∷ fields.U32 ∷ []

-- the report block about a stream with these values last
abbrev pub block_with : (ssrc fraction : ℕ) → (lost : ℤ) → List Value → ReportBlock
block_with ssrc fraction lost vs = record {
  ssrc = ssrc;
  fraction = fraction;
  lost = lost;
  highest = number_at 0 vs;
  jitter = number_at 1 vs;
  lsr = number_at 2 vs;
  dlsr = number_at 3 vs;
}

-- what a receiver reports of a stream, by the words FRACTION LOST HIGHEST JITTER LSR DLSR from place 5 on
unfoldable pub block_of : Endpoint → (ssrc : ℕ) → List (List ℕ) → Result Request (ℕ × Fault)
block_of from ssrc words = do
  share ← word_at 5 words
  fraction ← value_or 5 BadNumber (decimal_of 255 share.0)
  count ← word_at 6 share.1
  lost ← value_or 6 BadNumber (lost_of count.0)
  read ← values_of 7 block_fields count.1
  end ← none_left 11 read.1
  Ok (Item (block record { from = from; block = block_with ssrc fraction lost read.0 }))

-- this item, where no word is left
abbrev pub handed_alone : ℕ → Input → List (List ℕ) → Result Request (ℕ × Fault)
handed_alone place input words = do
  end ← none_left place words
  Ok (Item input)

-- the item of a kind, with these values first and words behind them
abbrev pub item_with : ItemKind → List Value → List (List ℕ) → Result Request (ℕ × Fault)
item_with kinds.Frame vs words = frame_of 8 (sighted vs) words
item_with kinds.Audio vs words = spelt_sound (address_at 0 vs) (number_at 1 vs) words
item_with kinds.Tick vs words = handed_alone 4 (tick (number_at 0 vs)) words
item_with kinds.Nack vs words = nack_of (address_at 0 vs) (number_at 1 vs) words
item_with kinds.Block vs words = block_of (address_at 0 vs) (number_at 1 vs) words
item_with kinds.Pli vs words =
    handed_alone 5 (pli record { from = address_at 0 vs; out_ssrc = number_at 1 vs }) words
item_with kinds.Report vs words = handed_alone 4 (report (number_at 0 vs)) words
item_with kinds.Renew vs words = handed_alone 3 renew words

-- the item that words from place 2 on spell
unfoldable pub item_request : List (List ℕ) → Result Request (ℕ × Fault)
item_request words = do
  word ← word_at 2 words
  kind ← value_or 2 UnknownWord (item_kind_of word.0)
  read ← values_of 3 (item_front_of kind) word.1
  item_with kind read.0 read.1

-- what the words of a line behind the first ask for
abbrev pub later_request : List (List ℕ) → Result Request (ℕ × Fault)
later_request [] = words_request []
later_request (word ∷ words) =
    if bytes_eq word item_word then item_request words else words_request (word ∷ words)

-- what a line behind the first asks for
abbrev pub request_of : List ℕ → Result Request (ℕ × Fault)
request_of line = line_request (later_request (words_of line)) line

-- the values on the line of what an address says of an outgoing stream, or of a source that it has
abbrev pub end_values : Endpoint → (ssrc : ℕ) → List Value
end_values from ssrc = Address from ∷ U32 ssrc ∷ []

-- the words of a report block behind its SSRC
abbrev pub block_words : ReportBlock → List (List ℕ)
block_words b =
    decimal b.fraction ∷ signed_decimal b.lost ∷ map value_text (U32 b.highest ∷ U32 b.jitter ∷ U32 b.lsr ∷ U32 b.dlsr
    ∷ [])

-- the words of an item behind the first
abbrev pub input_words : Input → List (List ℕ)
input_words (frame f) =
    item_kind_text kinds.Frame ∷ map value_text (front_values f) ++ map packet_text f.frame.packets
input_words (audio s) =
    item_kind_text kinds.Audio ∷ map value_text (end_values s.address s.source ++ U32 s.rate ∷ U32 s.ts ∷ [])
    ++ encode_lower (octets_of s.samples) ∷ []
input_words (tick moment) = item_kind_text kinds.Tick ∷ value_text (U64 moment) ∷ []
input_words (nack r) =
    item_kind_text kinds.Nack ∷ map value_text (end_values r.from r.out_ssrc)
    ++ encode_lower (pairs_octets r.numbers) ∷ []
input_words (block t) =
    item_kind_text kinds.Block ∷ map value_text (end_values t.from t.block.ssrc) ++ block_words t.block
input_words (pli l) = item_kind_text kinds.Pli ∷ map value_text (end_values l.from l.out_ssrc)
input_words (report moment) = item_kind_text kinds.Report ∷ value_text (U64 moment) ∷ []
input_words renew = item_kind_text kinds.Renew ∷ []

-- the line that hands the lane an item: its words with spaces (32) between them
abbrev pub item_line : Input → List ℕ
item_line input = join_with_byte 32 (item_word ∷ input_words input)

-- this line with an LF (10)
abbrev pub item_text : Input → List ℕ
item_text input = item_line input ++ 10 ∷ []
