-- What the parser holds of a line.
use Rattle.std.specs.Prelude.{◌≡◌, ◌≢◌, ℕ, List, [], ◌∷◌, length, Option, Some, None, ◌++◌, Result, Ok, Err}
use Rattle.frame_gate.specs.Frame.{SourcePacket}
use Rattle.media_items.specs.Frame.{SourceFrame}
use Rattle.desk_edit.specs.Asked.{asked_by}
use Rattle.sender_feedback.specs.Upstream.{Asker}
use Rattle.ingress.specs.declared.settings.Settings.{Settings}
use Rattle.media_items.specs.Inputs.{input_of}
use Rattle.media_items.specs.Inputs.Input.{frame, tick}
use Rattle.desk_text.specs.declared.fault.ParseFault.{ParseFault}
use Rattle.desk_text.specs.Words.{Fails}
use Rattle.script_text.specs.declared.packet.Parts.{Parts}
use Rattle.script_text.specs.declared.framing.FrameHead.{FrameHead}
use Rattle.script_text.specs.declared.handed_item.HandedItem.{HandedItem}
use Rattle.script_text.specs.declared.bridge_line.BridgeLine.{BridgeLine}
use Rattle.script_text.specs.declared.line.Line.{Line}
use Rattle.script_text.specs.declared.line.Line.TheVariants as lines
use Rattle.script_text.specs.Packets.{packet_of}
use Rattle.script_text.specs.Requests.{Request, Nothing, Begin, Desk, Item, Rx, Wait, Report, Show}

-- who speaks by these settings
abbrev pub asker_in : {A : Type 0} → Settings A → Asker
asker_in settings = record { ssrc = settings.bridge_ssrc; cname = settings.cname }

-- who the bridge is and how it begins, as it was read
abbrev pub begin_of : {A : Type 0} → BridgeLine A → Request
begin_of named = Begin (asker_in named.settings) named.renews

-- an item as it was read
abbrev pub handed_in : {A : Type 0} → HandedItem A → Request
handed_in handed = Item (input_of handed.item)

-- a line as it was read, without where it lies in memory
abbrev pub view : {A : Type 0} → Line A → Request
view lines.Nothing = Nothing
view (lines.Begin named) = begin_of named
view (lines.Desk op call) = Desk op (asked_by call)
view (lines.Frame f) = Item (frame f)
view (lines.Item handed) = handed_in handed
view (lines.Tick moment) = Item (tick moment)
view (lines.Report moment) = Report moment
view (lines.Rx moment from octets) = Rx moment from octets.items
view (lines.Wait moment from ssrc) = Wait moment from ssrc
view lines.Show = Show

-- the frame of these packets, with what stands before them
abbrev pub sighting : FrameHead → List SourcePacket → SourceFrame
sighting h packets = record {
  source = h.source;
  address = h.address;
  epoch = h.epoch;
  moment = h.moment;
  frame = record { ts = h.ts; packets = packets };
}

-- these are the four parts, or there are not four
abbrev pub are_parts : Option Parts → List (List ℕ) → Type 0
are_parts (Some p) parts = parts ≡ p.ext.now ∷ p.marker.now ∷ p.pt.now ∷ p.payload.now ∷ []
are_parts None parts = length parts ≢ 4

-- the packet that the word at this place spells stands behind the others, or its fault was told
abbrev pub TakesPacket : ℕ → List ℕ → List SourcePacket → List SourcePacket → Result (Unit {0}) ParseFault → Type 0
TakesPacket place word old new (Ok u) =
    (packet : SourcePacket) × (packet_of place word ≡ Ok packet) × (new ≡ old ++ packet ∷ [])
TakesPacket place word old new (Err e) = Fails e (packet_of place word)
