use Rattle.std.proofs.Common.{[], ◌∷◌, pos, false}
use Rattle.std.proofs.lemmas.Result.{IfOk-weaker}
use Rattle.frame_gate.specs.Packets.{numbered}
use Rattle.frame_gate.specs.Epochs.{epoch_of}
use Rattle.worked_codecs.specs.Fixtures.{given}
use Rattle.worked_codecs.proofs.numbers.the_first_piece_is_late_too.Goals as goal

pub returns : goal.returns
returns c =
    let one = numbered (pos 101) (given false 9000 (171 ∷ [])) in
    let step_1 = c.in_ok-give.ensures (epoch_of []) c.in_ok-gate.ensures in
    IfOk-weaker c.give-2.result _ _ (λ a admits. (admits (epoch_of (one ∷ [])) step_1.1).0.place) c.give-2.ensures
