-- What an RTCP compound does (RFC 3550 section 6.4.1, RFC 4585 sections 6.2.1 and 6.3.1; what has no effect is own).
use Rattle.std.specs.Prelude.{ℕ, if◌then◌else◌, List, [], ◌∷◌, ◌++◌, map, fold}
use Rattle.rtp_codec.specs.declared.address.Address.{Address}
use Rattle.rtcp_codec.specs.declared.report.ReportBlock.{ReportBlock}
use Rattle.rtcp_codec.specs.Packet.{Packet, Sender, Receiver, Sdes, Bye, App, Nack, Pli, Other}
use Rattle.source_valid.specs.declared.heard.Heard.{Heard}
use Rattle.source_valid.specs.Histories.{Sender as Noted, standing_of, past_probation_in}
use Rattle.sender_feedback.specs.Asked.{asked_in}
use Rattle.media_items.specs.Inputs.{Input}
use Rattle.ingress.specs.Stories.{Story}
use Rattle.ingress.specs.Sources.{Known, retold}

-- a report block as an item
abbrev pub block_item : Address → ReportBlock → Input
block_item from b = Input.block (record { from = from; block = b })

-- the items that a packet makes: each report block is one, so is a NACK, so is a PLI
abbrev pub asks : Address → Packet → List Input
asks from (Nack sender media words) =
    Input.nack (record { from = from; out_ssrc = media; numbers = asked_in (Nack sender media words) }) ∷ []
asks from (Sender ssrc ntp ts packets octets blocks) = map (block_item from) blocks
asks from (Receiver ssrc blocks) = map (block_item from) blocks
asks from (Sdes chunks) = []
asks from (Bye ssrcs reason) = []
asks from (App subtype ssrc name content) = []
asks from (Pli sender media) = Input.pli (record { from = from; out_ssrc = media }) ∷ []
asks from (Other pt count body) = []

-- a source past probation is given the sender report
abbrev pub heard_on : Heard → Story → Story
heard_on heard story =
    if past_probation_in (standing_of story.given)
    then record {
      rate = story.rate;
      given = story.given ++ Noted heard ∷ [];
      epoch = story.epoch;
      gate_events = story.gate_events;
    }
    else story

-- the sources after a packet: a sender report is noted at the source that is known at this address under its SSRC
abbrev pub noted : Address → ℕ → List Known → Packet → List Known
noted from moment known (Sender ssrc ntp ts packets octets blocks) =
    retold (record { address = from; ssrc = ssrc }) (heard_on (record { ntp = ntp; moment = moment })) known
noted from moment known (Receiver ssrc blocks) = known
noted from moment known (Sdes chunks) = known
noted from moment known (Bye ssrcs reason) = known
noted from moment known (App subtype ssrc name content) = known
noted from moment known (Nack sender media words) = known
noted from moment known (Pli sender media) = known
noted from moment known (Other pt count body) = known

-- the sources after packets, one after another
abbrev pub noted_all : Address → ℕ → List Known → List Packet → List Known
noted_all from moment known packets = fold (noted from moment) known packets
