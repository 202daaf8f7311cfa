-- The reports so far.
use Rattle.std.proofs.Common.{◌≡◌, map}
use Rattle.std.specs.List.{range_with_len}
use Rattle.rtcp_codec.specs.Packet.{Receiver}
use Rattle.rtcp_codec.specs.View.{packets_of}
use Rattle.sender_feedback.specs.ReceiverReports.{blocks_at}
use Rattle.sender_feedback.proofs.receiving.packets_for.Given as goal

abbrev pub invariant-loop-place : goal.invariant-loop-place
invariant-loop-place g l =
    packets_of l.packets.items ≡ map (λ place. Receiver l.ssrc (blocks_at l.blocks place)) (range_with_len 0 l.place)
