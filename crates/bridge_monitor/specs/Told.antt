-- What an operator is told of what a bridge counts (own).
use Rattle.std.specs.Prelude.{◌≡◌, ℕ, List, Option, None, Some}
use Rattle.std.specs.Map.{lookup}
use Rattle.rtp_codec.specs.declared.address.Address.{Address}
use Rattle.ingress.specs.inner.Holding.{IngressOf}
use Rattle.lane_wire.specs.declared.counts.SendCounts.{SendCounts}
use Rattle.lane_wire.specs.declared.stream_numbers.Reported.{Reported}
use Rattle.lane_wire.specs.declared.stream_numbers.StreamNumbers.{StreamNumbers}
use Rattle.bridge_stats.specs.declared.path.PathReport.{PathReport}
use Rattle.bridge_stats.specs.declared.others.LaneRow.{LaneRow}
use Rattle.bridge_stats.specs.declared.others.StreamReport.{StreamReport}
use Rattle.bridge_stats.specs.declared.others.StreamRow.{StreamRow}
use Rattle.bridge_stats.specs.declared.others.Seats.{Seats}
use Rattle.bridge_stats.specs.declared.others.SocketRow.{SocketRow}
use Rattle.bridge_stats.specs.declared.others.OthersShown.{OthersShown}
use Rattle.bridge_stats.specs.declared.shown.StatsShown.{StatsShown}
use Rattle.bridge_stats.specs.Senders.{same_sender}
use Rattle.bridge_stats.specs.Stats.{StatsOf}
use Rattle.bridge_stats.specs.Paths.{stream_at}
use Rattle.bridge_stats.specs.Shown.{IsShown, stats_text}
use Rattle.bridge_stats.specs.Levels.{levels_text}

-- These rows show what was counted at a moment, and how a receive side received the sources.
abbrev pub ShowsCounts : StatsShown → Type 0
ShowsCounts shown = (now : ℕ) × (ingress : IngressOf) × (stats : StatsOf) × IsShown now ingress stats shown

-- The octets are the lines of rows that show what was counted at a moment, of what others counted, of the socket's
-- buffers, and of these seats.
pub record TellsCounts (buffers : SocketRow) (in_use : Seats) (text : List ℕ) : Type 0 where
  pub shown : StatsShown
  pub others : OthersShown
  pub counted : ShowsCounts shown
  pub socket : others.socket ≡ buffers
  pub seats : others.seats ≡ in_use
  pub says : text ≡ stats_text shown others

-- The octets are the levels of rows that show what was counted at a moment.
pub record TellsLevels (text : List ℕ) : Type 0 where
  pub shown : StatsShown
  pub counted : ShowsCounts shown
  pub says : text ≡ levels_text shown

-- what a lane did: its items, those that were dropped for it and those that wait, and what it sent and could not send
abbrev pub lane_row : (lane items dropped waiting : ℕ) → SendCounts → LaneRow
lane_row lane items dropped waiting sent = record {
  lane = lane;
  items = items;
  dropped = dropped;
  packets = sent.packets;
  octets = sent.octets;
  waited = sent.waited;
  not_ready = sent.not_ready;
  denied = sent.denied;
  refused = sent.refused;
  unreachable = sent.unreachable;
  too_long = sent.too_long;
  other = sent.other;
  waiting = waiting;
}

-- what a receiver reported, and what came last from its address of the way to it, if that is kept
abbrev pub report_row : StatsOf → Reported → StreamReport
report_row stats reported = record {
  fraction = reported.note.fraction;
  lost = reported.note.lost;
  source = reported.note.source;
  path = lookup (same_sender (stream_at reported.from reported.note.out_ssrc)) stats.reports.entries;
}

-- the report by what came last of the way of a stream; it leads back to no source's packet
abbrev pub way_row : Option PathReport → Option StreamReport
way_row None = None
way_row (Some path) =
    Some (record { fraction = path.fraction; lost = path.lost; source = None; path = Some path })

-- what came last from the address to which the last packet of a stream went, if that is kept
abbrev pub way_from : StatsOf → Option Address → (ssrc : ℕ) → Option StreamReport
way_from stats None ssrc = None
way_from stats (Some to) ssrc = way_row (lookup (same_sender (stream_at to ssrc)) stats.reports.entries)

-- What the receiver of a stream reported last: what its lane noted; and of a stream of which lanes note nothing, as of
-- a mix, what came last of the way to it.
abbrev pub report_of : StatsOf → (ssrc : ℕ) → Option Address → Option Reported → Option StreamReport
report_of stats ssrc to None = way_from stats to ssrc
report_of stats ssrc to (Some reported) = Some (report_row stats reported)

-- what was sent of a stream, and what its receiver reported last
abbrev pub stream_row : StatsOf → (ssrc : ℕ) → StreamNumbers → StreamRow
stream_row stats ssrc numbers = record {
  out_ssrc = ssrc;
  report = report_of stats ssrc numbers.to numbers.report;
  packets = numbers.packets;
  octets = numbers.octets;
  resent = numbers.resent;
}
