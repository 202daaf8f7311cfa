-- What was found of the numbers so far.
use Rattle.std.proofs.Common.{◌≡◌, take}
use Rattle.std.specs.List.{filter_map}
use Rattle.retransmit.specs.Window.{resend_of}
use Rattle.receiver_feedback.proofs.resending.copies.Given as goal

abbrev pub invariant-loop-number : goal.invariant-loop-number
invariant-loop-number g l =
    l.entries.items ≡ filter_map (λ n. resend_of n l.owner l.stream.window) (take l.number-index l.numbers)
