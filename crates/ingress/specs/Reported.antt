-- What is reported of sources to the members that send them (RFC 3550 section 6.4.2; which of them are reported is
-- own).
use Rattle.std.specs.Prelude.{ℕ, if◌then◌else◌, nat_eq, List, [], ◌∷◌, ◌++◌, fold, Option, None, Some}
use Rattle.std.specs.Option.{option_and_then}
use Rattle.std.specs.List.{filter_map, flat_map}
use Rattle.rtp_codec.specs.declared.address.Address.{Address}
use Rattle.rtcp_codec.specs.declared.report.ReportBlock.{ReportBlock}
use Rattle.rtcp_codec.specs.Compound.{written}
use Rattle.source_valid.specs.declared.heard.Heard.{Heard}
use Rattle.source_valid.specs.declared.timing.Timing.{Timing}
use Rattle.source_valid.specs.Histories.{Standing, Unheard, Waiting, Valid, Block, standing_of, timing_of, heard_of}
use Rattle.source_valid.specs.Histories.{past_probation_in}
use Rattle.source_valid.specs.Reports.{block_of}
use Rattle.desk_rows.specs.declared.row.Member.{Member}
use Rattle.desk_rows.specs.declared.row.Source.{Source}
use Rattle.desk_rows.specs.Desk.{Desk}
use Rattle.topology.specs.Looking.{member_at}
use Rattle.topology.specs.Choice.{sources_of}
use Rattle.sender_feedback.specs.Upstream.{Asker}
use Rattle.sender_feedback.specs.ReceiverReports.{receiver_packets}
use Rattle.ingress.specs.Stories.{Story}
use Rattle.ingress.specs.Sources.{Sources, Known, story_at, retold}

-- ---- one source

-- the report block of a source past probation; there is none on probation
abbrev pub block_in : Standing → Timing → Option Heard → (ssrc moment : ℕ) → Option ReportBlock
block_in Unheard timing heard ssrc moment = None
block_in (Waiting last) timing heard ssrc moment = None
block_in (Valid s) timing heard ssrc moment = Some (block_of s timing heard ssrc moment)

-- the block at a moment of the source of this SSRC and this story
abbrev pub block_on : (ssrc moment : ℕ) → Story → Option ReportBlock
block_on ssrc moment story =
    block_in (standing_of story.given) (timing_of story.given) (heard_of story.given) ssrc moment

-- the block of a source, if it is this member's and known at the member's address
abbrev pub block_from : (moment : ℕ) → List Known → Member → Source → Option ReportBlock
block_from moment known m s =
    if nat_eq s.member m.member
    then option_and_then (block_on s.ssrc moment) (story_at (record { address = m.address; ssrc = s.ssrc }) known)
    else None

-- the story with a block, with which a new interval begins; a source on probation gets none
abbrev pub renewed : Story → Story
renewed story =
    if past_probation_in (standing_of story.given)
    then record {
      rate = story.rate;
      given = story.given ++ Block ∷ [];
      epoch = story.epoch;
      gate_events = story.gate_events;
    }
    else story

-- a new interval of a source that sends from the address of a member, if there is the member
abbrev pub renewed_at : (ssrc : ℕ) → Option Member → List Known → List Known
renewed_at ssrc None known = known
renewed_at ssrc (Some m) known = retold (record { address = m.address; ssrc = ssrc }) renewed known

-- ---- one member

-- the blocks of a member's sources among these, in their order
abbrev pub blocks_of : List Source → (moment : ℕ) → List Known → Member → List ReportBlock
blocks_of sources moment known m = filter_map (block_from moment known m) sources

-- the datagram of blocks to an address; without a block there is none
abbrev pub report_to : Asker → Address → List ReportBlock → List (Address × List ℕ)
report_to asker address [] = []
report_to asker address (b ∷ blocks) = (address, written (receiver_packets asker.ssrc (b ∷ blocks) asker.cname)) ∷ []

-- ---- all

-- the datagrams to members on those of the sources that are theirs, member by member
abbrev pub told_to_members : Asker → List Source → (moment : ℕ) → List Known → List Member → List (Address × List ℕ)
told_to_members asker sources moment known members =
    flat_map (λ m. report_to asker m.address (blocks_of sources moment known m)) members

-- a new interval of a source of the desk
abbrev pub renewed_on : Desk → List Known → Source → List Known
renewed_on d known s = renewed_at s.ssrc (member_at d s.member) known

-- a new interval of each of the sources
abbrev pub all_renewed : Desk → List Known → List Source → List Known
all_renewed d known sources = fold (renewed_on d) known sources

-- the datagrams to the members of a desk at a moment, by place, each on the member's sources by SSRC, muted ones too;
-- and the sources after it, the reported ones with new intervals
abbrev pub reported : Asker → Desk → (moment : ℕ) → Sources → List (Address × List ℕ) × Sources
reported asker d moment s = (
  told_to_members asker (sources_of d) moment s.known d.members,
  record { known = all_renewed d s.known (sources_of d); epochs = s.epochs },
)
