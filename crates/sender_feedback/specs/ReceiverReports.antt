-- What is reported of sources to their sender (RFC 3550 sections 6.1 and 6.4.2; where the name stands is own).
use Rattle.std.specs.Prelude.{ℕ, ◌+◌, ◌-◌, ◌*◌, ◌/◌, List, [], ◌∷◌, ◌++◌, length, take, drop, map}
use Rattle.std.specs.List.{range_with_len}
use Rattle.rtcp_codec.specs.declared.report.ReportBlock.{ReportBlock}
use Rattle.rtcp_codec.specs.Packet.{Packet, Sender, Receiver, Sdes, Bye, App, Nack, Pli, Other, most_count}
use Rattle.rtcp_codec.specs.CanonicalName.{named}

-- the blocks of the report at this place, from 0: the next 31, or as many as are left
abbrev pub blocks_at : List ReportBlock → ℕ → List ReportBlock
blocks_at blocks place = take most_count (drop (most_count * place) blocks)

-- how many reports blocks take: as many as hold them all, and one if there is no block
abbrev pub count_of_reports : ℕ → ℕ
count_of_reports blocks = (blocks - 1) / most_count + 1

-- the blocks in their order, 31 to a receiver report
abbrev pub receiver_reports : (ssrc : ℕ) → List ReportBlock → List Packet
receiver_reports ssrc blocks =
    map (λ place. Receiver ssrc (blocks_at blocks place)) (range_with_len 0 (count_of_reports (length blocks)))

-- the blocks that a packet has: reports alone have any
abbrev pub blocks_in : Packet → List ReportBlock
blocks_in (Receiver ssrc blocks) = blocks
blocks_in (Sender ssrc ntp ts packets octets blocks) = blocks
blocks_in (Sdes chunks) = []
blocks_in (Bye ssrcs reason) = []
blocks_in (App subtype ssrc name content) = []
blocks_in (Nack sender media words) = []
blocks_in (Pli sender media) = []
blocks_in (Other pt count body) = []

-- the receiver reports, then the canonical name of who reports
abbrev pub receiver_packets : (ssrc : ℕ) → List ReportBlock → (cname : List ℕ) → List Packet
receiver_packets ssrc blocks cname = receiver_reports ssrc blocks ++ named ssrc cname ∷ []
