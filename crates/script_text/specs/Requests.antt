-- What a line asks for (own).
use Rattle.std.specs.Prelude.{◌≡◌, ◌≢◌, ℕ, Bool, ◌||◌, ◌==◌, not, List}
use Rattle.std.specs.Prelude.{[], ◌∷◌, ◌++◌, map, length, nat_lt, slice_index, codes}
use Rattle.std.specs.Prelude.{Option, Some, None, Result, Ok, Err, if◌then◌else◌}
use Rattle.std.specs.List.{list_all, find, join_with_byte}
use Rattle.std.specs.Str.{bytes_eq}
use Rattle.desk_edit.specs.Asked.{CallOf}
use Rattle.hex.specs.Hex.{IsBytes, decode_of, encode_lower}
use Rattle.rtp_codec.specs.declared.address.Address.{Address as Endpoint}
use Rattle.frame_gate.specs.declared.frame.FrameFault.{FrameFault}
use Rattle.frame_gate.specs.Frame.{SourcePacket, fault_of}
use Rattle.sender_feedback.specs.Upstream.{Asker}
use Rattle.media_items.specs.Frame.{SourceFrame}
use Rattle.media_items.specs.Inputs.{Input}
use Rattle.media_items.specs.Inputs.Input.{frame, tick}
use Rattle.desk_text.specs.declared.fault.Fault.{Fault}
use Rattle.desk_text.specs.declared.fault.Fault.TheVariants.{LineTooLong, BadByte, UnknownWord}
use Rattle.desk_text.specs.declared.fault.Fault.TheVariants.{MissingWord, BadHex, BadFrame}
use Rattle.desk_text.specs.declared.value.Field.{Field}
use Rattle.desk_text.specs.declared.value.Field.TheVariants as fields
use Rattle.desk_text.specs.declared.value.Value.{Value}
use Rattle.desk_text.specs.declared.value.Value.TheVariants.{U32, U64, Operator, Address}
use Rattle.desk_text.specs.Lines.{limit_of, is_printable}
use Rattle.desk_text.specs.Words.{◌>>=◌, words_of, word_at, none_left, value_or}
use Rattle.desk_text.specs.Values.{value_text, values_of, number_at, address_at, AllFit}
use Rattle.desk_text.specs.Calls.{call_of, call_words}
use Rattle.script_text.specs.declared.name.LineKind.{LineKind}
use Rattle.script_text.specs.declared.name.LineKind.TheVariants as kinds
use Rattle.script_text.specs.Packets.{packet_text, octets_or, source_packets_of, AllReadable}

-- nothing, who the bridge is and whether its jitter buffers begin anew after late or full sound, an operator's call, an
-- item for the lane, a datagram from an address at a moment, a wait for a source until a moment, the reports of a
-- moment, or the desk's rows
pub data Request : Type 0 where
  Nothing : Request
  Begin : (who : Asker) (renews : Bool) → Request
  Desk : (op : ℕ) (call : CallOf) → Request
  Item : (item : Input) → Request
  Rx : (moment : ℕ) (from : Endpoint) (octets : List ℕ) → Request
  Wait : (moment : ℕ) (from : Endpoint) (ssrc : ℕ) → Request
  Report : (moment : ℕ) → Request
  Show : Request

-- how the first word of a line is written
abbrev pub kind_text : LineKind → List ℕ
kind_text kinds.Desk = codes "desk"
kind_text kinds.Frame = codes "frame"
kind_text kinds.Rx = codes "rx"
kind_text kinds.Wait = codes "wait"
kind_text kinds.Tick = codes "tick"
kind_text kinds.Report = codes "report"
kind_text kinds.Show = codes "show"

-- the kinds of lines
abbrev pub line_kinds : List LineKind
line_kinds = kinds.Desk ∷ kinds.Frame ∷ kinds.Rx ∷ kinds.Wait ∷ kinds.Tick ∷ kinds.Report ∷ kinds.Show ∷ []

-- the kind of line that a word begins
abbrev pub line_kind_of : List ℕ → Option LineKind
line_kind_of word = find (λ kind. bytes_eq word (kind_text kind)) line_kinds

-- the fields that stand first behind it: OP; MOMENT ADDRESS SSRC EPOCH TS; MOMENT ADDRESS; MOMENT ADDRESS SSRC; MOMENT;
-- MOMENT
abbrev pub front_of : LineKind → List Field
front_of kinds.Desk = fields.Operator ∷ []
front_of kinds.Frame = fields.U64 ∷ fields.Address ∷ fields.U32 ∷ fields.U64 ∷ fields.U32 ∷ []
front_of kinds.Rx = fields.U64 ∷ fields.Address ∷ []
front_of kinds.Wait = fields.U64 ∷ fields.Address ∷ fields.U32 ∷ []
front_of kinds.Tick = fields.U64 ∷ []
front_of kinds.Report = fields.U64 ∷ []
front_of kinds.Show = []

-- at least one packet
abbrev pub some_packets : ℕ → List (List ℕ) → Result (List SourcePacket) (ℕ × Fault)
some_packets place [] = Err (place, MissingWord)
some_packets place (word ∷ words) = source_packets_of place (word ∷ words)

-- packets that make no frame are told last, at the place of the first of them
abbrev pub framed : ℕ → SourceFrame → Option FrameFault → Result Request (ℕ × Fault)
framed place sighting None = Ok (Item (frame sighting))
framed place sighting (Some fault) = Err (place, BadFrame)

-- the call of an operator that words spell
abbrev pub desk_of : ℕ → List (List ℕ) → Result Request (ℕ × Fault)
desk_of op words = do
  call ← call_of 2 words
  Ok (Desk op call)

-- what words EXT/M/PT/HEX .. from this place on ask for, where this is the frame of their packets
unfoldable pub frame_of : ℕ → (List SourcePacket → SourceFrame) → List (List ℕ) → Result Request (ℕ × Fault)
frame_of place sighted words = do
  packets ← some_packets place words
  framed place (sighted packets) (fault_of packets)

-- the frame of these packets, with the values MOMENT ADDRESS SSRC EPOCH TS
abbrev pub sighted : List Value → List SourcePacket → SourceFrame
sighted vs packets = record {
  moment = number_at 0 vs;
  address = address_at 1 vs;
  source = number_at 2 vs;
  epoch = number_at 3 vs;
  frame = record { ts = number_at 4 vs; packets = packets };
}

-- the octets that a word at this place spells: there is one at least
abbrev pub some_octets : ℕ → List ℕ → Result (List ℕ) (ℕ × Fault)
some_octets place word = if length word == 0 then Err (place, BadHex) else octets_or place (decode_of word)

-- a datagram that came so, the one word behind it being its octets
unfoldable pub rx_of : ℕ → Endpoint → List (List ℕ) → Result Request (ℕ × Fault)
rx_of moment from words = do
  word ← word_at 4 words
  octets ← some_octets 4 word.0
  end ← none_left 5 word.1
  Ok (Rx moment from octets)

-- a wait for the source of an SSRC at an address, where no word is left
abbrev pub wait_of : ℕ → Endpoint → ℕ → List (List ℕ) → Result Request (ℕ × Fault)
wait_of moment from ssrc words = do
  end ← none_left 5 words
  Ok (Wait moment from ssrc)

-- a tick at a moment, where no word is left
abbrev pub tick_item : ℕ → List (List ℕ) → Result Request (ℕ × Fault)
tick_item moment words = do
  end ← none_left 3 words
  Ok (Item (tick moment))

-- the reports of a moment, where no word is left
abbrev pub report_of : ℕ → List (List ℕ) → Result Request (ℕ × Fault)
report_of moment words = do
  end ← none_left 3 words
  Ok (Report moment)

-- the desk's rows, where no word is left
abbrev pub show_of : List (List ℕ) → Result Request (ℕ × Fault)
show_of words = do
  end ← none_left 2 words
  Ok Show

-- what a line of a kind asks for, with these values first and words behind them
abbrev pub request_with : LineKind → List Value → List (List ℕ) → Result Request (ℕ × Fault)
request_with kinds.Desk vs words = desk_of (number_at 0 vs) words
request_with kinds.Frame vs words = frame_of 7 (sighted vs) words
request_with kinds.Rx vs words = rx_of (number_at 0 vs) (address_at 1 vs) words
request_with kinds.Wait vs words = wait_of (number_at 0 vs) (address_at 1 vs) (number_at 2 vs) words
request_with kinds.Tick vs words = tick_item (number_at 0 vs) words
request_with kinds.Report vs words = report_of (number_at 0 vs) words
request_with kinds.Show vs words = show_of words

-- what the words of a line ask for that hands the lane no item by its first word
unfoldable pub words_request : List (List ℕ) → Result Request (ℕ × Fault)
words_request words = do
  word ← word_at 1 words
  kind ← value_or 1 UnknownWord (line_kind_of word.0)
  read ← values_of 2 (front_of kind) word.1
  request_with kind read.0 read.1

-- what a line asks for whose words ask for this, or its first fault and the place of its word; place 0 is the whole
-- line, and 35 is `#`
unfoldable pub line_request : Result Request (ℕ × Fault) → List ℕ → Result Request (ℕ × Fault)
line_request asked line =
    if nat_lt (limit_of line) (length line) then Err (0, LineTooLong)
    else if not (list_all is_printable line) then Err (0, BadByte)
    else if length line == 0 || slice_index line 0 == 35 then Ok Nothing
    else asked

-- the words of an operator's line, with these of its call
abbrev pub desk_words : ℕ → (words : List (List ℕ)) → List (List ℕ)
desk_words op words = kind_text kinds.Desk ∷ value_text (Operator op) ∷ words

-- the line of an operator's call: its words with spaces (32) between them
abbrev pub desk_line : ℕ → CallOf → List ℕ
desk_line op call = join_with_byte 32 (desk_words op (call_words call))

-- the words of a datagram's line whose octets are written so
abbrev pub rx_words : (moment : ℕ) → Endpoint → List ℕ → List (List ℕ)
rx_words moment from octets = kind_text kinds.Rx ∷ map value_text (U64 moment ∷ Address from ∷ []) ++ octets ∷ []

-- the line of a datagram
abbrev pub rx_line : (moment : ℕ) → Endpoint → List ℕ → List ℕ
rx_line moment from octets = join_with_byte 32 (rx_words moment from (encode_lower octets))

-- the values on the line of a wait
abbrev pub wait_values : (moment : ℕ) → Endpoint → (ssrc : ℕ) → List Value
wait_values moment from ssrc = U64 moment ∷ Address from ∷ U32 ssrc ∷ []

-- the words of a wait's line
abbrev pub wait_words : (moment : ℕ) → Endpoint → (ssrc : ℕ) → List (List ℕ)
wait_words moment from ssrc = kind_text kinds.Wait ∷ map value_text (wait_values moment from ssrc)

-- the line of a wait
abbrev pub wait_line : (moment : ℕ) → Endpoint → (ssrc : ℕ) → List ℕ
wait_line moment from ssrc = join_with_byte 32 (wait_words moment from ssrc)

-- the words of a tick's line
abbrev pub tick_words : (moment : ℕ) → List (List ℕ)
tick_words moment = kind_text kinds.Tick ∷ value_text (U64 moment) ∷ []

-- the line of a tick
abbrev pub tick_line : (moment : ℕ) → List ℕ
tick_line moment = join_with_byte 32 (tick_words moment)

-- the words of a line of reports
abbrev pub report_words : (moment : ℕ) → List (List ℕ)
report_words moment = kind_text kinds.Report ∷ value_text (U64 moment) ∷ []

-- the line of reports
abbrev pub report_line : (moment : ℕ) → List ℕ
report_line moment = join_with_byte 32 (report_words moment)

-- there are octets, and all numbers are in range
pub record IsDatagram (moment : ℕ) (from : Endpoint) (octets : List ℕ) : Type 0 where
  pub front : AllFit (U64 moment ∷ Address from ∷ [])
  pub bytes : IsBytes octets
  pub some : octets ≢ []

-- the values that stand first on the line of a frame
abbrev pub front_values : SourceFrame → List Value
front_values f = U64 f.moment ∷ Address f.address ∷ U32 f.source ∷ U64 f.epoch ∷ U32 f.frame.ts ∷ []

-- the words of a frame whose packets are written so
abbrev pub frame_words : SourceFrame → List (List ℕ) → List (List ℕ)
frame_words f packets = kind_text kinds.Frame ∷ map value_text (front_values f) ++ packets

-- the line of a frame
abbrev pub frame_line : SourceFrame → List ℕ
frame_line f = join_with_byte 32 (frame_words f (map packet_text f.frame.packets))

-- the packets make a frame, and all numbers are in range
pub record IsFrame (f : SourceFrame) : Type 0 where
  pub front : AllFit (front_values f)
  pub packets : AllReadable f.frame.packets
  pub made : fault_of f.frame.packets ≡ None
