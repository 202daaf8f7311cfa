-- What is shown of what a bridge counts (own), and its lines.
use Rattle.std.specs.Prelude.{◌≡◌, ℕ, ◌-◌, ◌/◌, List, [], ◌∷◌, ◌++◌, map, codes, Option, None, Some, ℤ, All}
use Rattle.std.specs.Prelude.{nat_eq, ◌&&◌, if◌then◌else◌}
use Rattle.std.specs.List.{flat_map}
use Rattle.rtp_codec.specs.declared.address.Address.{Address}
use Rattle.ingress.specs.inner.Holding.{IngressOf}
use Rattle.bridge_stats.specs.declared.taken.TakenIn.{TakenIn}
use Rattle.bridge_stats.specs.declared.sender.Sender.{Sender}
use Rattle.ingress.specs.declared.outcome_kind.OutcomeKind.{OutcomeKind}
use Rattle.bridge_stats.specs.declared.stranger.StrangerNumbers.{StrangerNumbers}
use Rattle.bridge_stats.specs.declared.path.PathReport.{PathReport}
use Rattle.bridge_stats.specs.declared.rows.KindRow.{KindRow}
use Rattle.bridge_stats.specs.declared.rows.SourceRow.{SourceRow}
use Rattle.bridge_stats.specs.declared.rows.StrangerRow.{StrangerRow}
use Rattle.bridge_stats.specs.declared.others.StreamReport.{StreamReport}
use Rattle.bridge_stats.specs.declared.others.StreamRow.{StreamRow}
use Rattle.bridge_stats.specs.declared.others.LaneRow.{LaneRow}
use Rattle.bridge_stats.specs.declared.others.Limited.{Limited}
use Rattle.bridge_stats.specs.declared.others.Seats.{Seats}
use Rattle.bridge_stats.specs.declared.others.SocketRow.{SocketRow}
use Rattle.bridge_stats.specs.declared.others.OthersShown.{OthersShown}
use Rattle.bridge_stats.specs.declared.shown.StatsShown.{StatsShown}
use Rattle.ingress.specs.OutcomeKinds.{kind_name}
use Rattle.bridge_stats.specs.Kinds.{all_kinds}
use Rattle.bridge_stats.specs.Counts.{datagrams_with, octets_with}
use Rattle.bridge_stats.specs.Sources.{numbers_of}
use Rattle.bridge_stats.specs.Stats.{StatsOf}
use Rattle.bridge_stats.specs.Received.{IsReceived, reception_parts}
use Rattle.bridge_stats.specs.Paths.{path_parts}
use Rattle.bridge_stats.specs.Why.{why_parts}
use Rattle.bridge_stats.specs.Text.{LinePart, words, number, signed, place, no_word, line_text}

-- how many datagrams had an outcome of this kind, and their octets
abbrev pub kind_row : List TakenIn → OutcomeKind → KindRow
kind_row all kind = record { kind = kind; datagrams = datagrams_with kind all; octets = octets_with kind all }

-- what is counted of a source, and how many whole milliseconds ago its last datagram came
abbrev pub source_row : (now : ℕ) → Sender × List TakenIn → SourceRow
source_row now entry = record {
  sender = entry.0;
  numbers = numbers_of entry.1;
  ago = (now - (numbers_of entry.1).last) / 1000000;
  reception = None;
}

-- the row of a source without how it is received
abbrev pub counts_in : SourceRow → SourceRow
counts_in row = record { sender = row.sender; numbers = row.numbers; ago = row.ago; reception = None }

-- The row tells how the receive side receives its source.
abbrev pub TellsReception : IngressOf → SourceRow → Type 0
TellsReception ingress row = IsReceived ingress row.sender row.reception

abbrev pub stranger_row : Sender × StrangerNumbers → StrangerRow
stranger_row entry = record { sender = entry.0; numbers = entry.1 }

-- where a sender's packets come from
abbrev pub sender_address : Sender → Address
sender_address sender = record { ip = sender.ip; port = sender.port }

-- ---- lines

abbrev pub kind_line : KindRow → List ℕ
kind_line row =
    line_text (codes "datagrams")
    (number row.datagrams ∷ words (codes "octets") ∷ number row.octets ∷ words (kind_name row.kind) ∷ [])

-- the line of an outcome, if a datagram had it
abbrev pub kind_text : KindRow → List ℕ
kind_text row = if nat_eq row.datagrams 0 then [] else kind_line row

-- a source: its address and SSRC, its counts, and how many packets were lost since it was initialised: those expected
-- less those received, none where more came
abbrev pub count_parts : SourceRow → List LinePart
count_parts row =
    place (sender_address row.sender) ∷ number row.sender.ssrc ∷ words (codes "packets") ∷ number row.numbers.packets
    ∷ words (codes "octets") ∷ number row.numbers.octets ∷ words (codes "late") ∷ number row.numbers.late
    ∷ words (codes "duplicate") ∷ number row.numbers.duplicates ∷ words (codes "dropped") ∷ number row.numbers.dropped
    ∷ words (codes "expected") ∷ number row.numbers.expected ∷ words (codes "lost")
    ∷ number (row.numbers.expected - row.numbers.received) ∷ words (codes "ago") ∷ number row.ago ∷ []

-- a source: its counts, how it is received, what is counted of its sound, and why it isn't heard
abbrev pub source_line : SourceRow → List ℕ
source_line row =
    line_text (codes "source")
    (count_parts row ++ (reception_parts row.reception row.numbers ++ why_parts row.reception row.numbers))

abbrev pub stranger_line : StrangerRow → List ℕ
stranger_line row =
    line_text (codes "stranger")
    (place (sender_address row.sender) ∷ number row.sender.ssrc ∷ words (codes "type") ∷ number row.numbers.pt
    ∷ words (codes "packets") ∷ number row.numbers.packets ∷ [])

-- how much was not counted since memory was refused: datagrams of sources, those of strangers, and of streams packets
-- that were sent and reports; and what receivers reported of the way to them
abbrev pub left_out_line : (sources strangers streams reports : ℕ) → List ℕ
left_out_line sources strangers streams reports =
    line_text (codes "left-out")
    (words (codes "sources") ∷ number sources ∷ words (codes "strangers") ∷ number strangers
    ∷ words (codes "streams") ∷ number streams ∷ words (codes "reports") ∷ number reports ∷ [])

-- this line, if anything was left out
abbrev pub left_out_text : StatsShown → OthersShown → List ℕ
left_out_text shown others =
    if nat_eq shown.left_out_sources 0 && (nat_eq shown.left_out_strangers 0
    && (nat_eq others.left_out_streams 0 && nat_eq shown.left_out_reports 0)) then []
    else left_out_line shown.left_out_sources shown.left_out_strangers others.left_out_streams shown.left_out_reports

-- the parts of a source's packet: its SSRC and its extended number, or marks that there is none
abbrev pub highest_parts : Option (ℕ × ℤ) → List LinePart
highest_parts None = no_word ∷ no_word ∷ []
highest_parts (Some packet) = number packet.0 ∷ signed packet.1 ∷ []

-- the fraction lost by the last report, if there was one
abbrev pub fraction_part : Option StreamReport → LinePart
fraction_part None = no_word
fraction_part (Some report) = number report.fraction

-- the packets lost in all by the last report, if there was one
abbrev pub lost_part : Option StreamReport → LinePart
lost_part None = no_word
lost_part (Some report) = signed report.lost

-- the source's packet of the last report, if there was one and it has one
abbrev pub highest_of : Option StreamReport → Option (ℕ × ℤ)
highest_of None = None
highest_of (Some report) = report.source

-- what the last report says of the way to the receiver, if anything is kept
abbrev pub path_in : Option StreamReport → Option PathReport
path_in None = None
path_in (Some report) = report.path

-- an outgoing stream: what its receiver reported last, and what was sent of it
abbrev pub stream_parts : StreamRow → List LinePart
stream_parts row =
    number row.out_ssrc ∷ words (codes "fraction") ∷ fraction_part row.report
    ∷ words (codes "lost") ∷ lost_part row.report
    ∷ words (codes "highest") ∷ (highest_parts (highest_of row.report) ++ words (codes "packets") ∷ number row.packets
    ∷ words (codes "octets") ∷ number row.octets ∷ words (codes "resent") ∷ number row.resent ∷ [])

-- the same, and the way to its receiver
abbrev pub stream_line : StreamRow → List ℕ
stream_line row = line_text (codes "stream") (stream_parts row ++ path_parts (path_in row.report))

abbrev pub lane_line : LaneRow → List ℕ
lane_line row =
    line_text (codes "lane")
    (number row.lane ∷ words (codes "items") ∷ number row.items ∷ words (codes "dropped") ∷ number row.dropped
    ∷ words (codes "packets") ∷ number row.packets ∷ words (codes "octets") ∷ number row.octets
    ∷ words (codes "waited") ∷ number row.waited ∷ words (codes "not-ready") ∷ number row.not_ready
    ∷ words (codes "denied") ∷ number row.denied ∷ words (codes "refused") ∷ number row.refused
    ∷ words (codes "unreachable") ∷ number row.unreachable ∷ words (codes "too-long") ∷ number row.too_long
    ∷ words (codes "other") ∷ number row.other ∷ words (codes "waiting") ∷ number row.waiting ∷ [])

abbrev pub limited_line : Limited → List ℕ
limited_line limited =
    line_text (codes "limited")
    (words (codes "nacks") ∷ number limited.nacks ∷ words (codes "blocks") ∷ number limited.blocks
    ∷ words (codes "plis") ∷ number limited.plis ∷ [])

-- this line, if the rate limiter left out anything
abbrev pub limited_text : Limited → List ℕ
limited_text limited =
    if nat_eq limited.nacks 0 && (nat_eq limited.blocks 0 && nat_eq limited.plis 0) then [] else limited_line limited

-- the drops at a socket, or a mark that the system doesn't tell them
abbrev pub drops_part : Option ℕ → LinePart
drops_part None = no_word
drops_part (Some drops) = number drops

-- the socket for datagrams: its buffers, and what the system dropped there
abbrev pub socket_line : SocketRow → List ℕ
socket_line row =
    line_text (codes "socket")
    (words (codes "receive-buffer") ∷ number row.receive_buffer ∷ words (codes "send-buffer") ∷ number row.send_buffer
    ∷ words (codes "drops") ∷ drops_part row.drops ∷ [])

abbrev pub seats_line : Seats → List ℕ
seats_line seats = line_text (codes "seats") (number seats.used ∷ words (codes "of") ∷ number seats.all ∷ [])

-- ---- all lines

-- what others count
abbrev pub others_text : OthersShown → List ℕ
others_text others =
    flat_map stream_line others.streams.now ++ (flat_map lane_line others.lanes.now
    ++ (limited_text others.limited
    ++ (socket_line others.socket ++ (seats_line others.seats ++ codes "end\n"))))

-- all that is counted: the outcomes, sources, senders that are no source, what was left out, and what others count
abbrev pub stats_text : StatsShown → OthersShown → List ℕ
stats_text shown others =
    flat_map kind_text shown.kinds.items ++ (flat_map source_line shown.sources.items
    ++ (flat_map stranger_line shown.strangers.items
    ++ (left_out_text shown others ++ others_text others)))

-- This is shown at a moment of what was counted, and of how a receive side receives the sources.
pub record IsShown (now : ℕ) (ingress : IngressOf) (stats : StatsOf) (shown : StatsShown) : Type 0 where
  pub kinds : shown.kinds.items ≡ map (kind_row stats.taken) all_kinds
  pub sources : map counts_in shown.sources.items ≡ map (source_row now) stats.sources.entries
  pub receptions : All (TellsReception ingress) shown.sources.items
  pub strangers : shown.strangers.items ≡ map stranger_row stats.strangers.entries
  pub left_out_sources : shown.left_out_sources ≡ stats.sources.left_out
  pub left_out_strangers : shown.left_out_strangers ≡ stats.strangers.left_out
  pub left_out_reports : shown.left_out_reports ≡ stats.reports.left_out
