use Rattle.std.proofs.Common.{[], ◌∷◌, pos, true, false, sym}
use Rattle.std.proofs.lemmas.Result.{IfOk-weaker}
use Rattle.frame_gate.specs.Packets.{numbered}
use Rattle.frame_gate.specs.Epochs.{epoch_of}
use Rattle.worked_codecs.specs.Fixtures.{given}
use Rattle.worked_codecs.proofs.frames.an_empty_packet_closes_nothing.Goals as goal

pub returns : goal.returns
returns c =
    let one = numbered (pos 101) (given true 9000 (171 ∷ [])) in
    let two = numbered (pos 102) (given false 12000 (172 ∷ [])) in
    let step_1 = c.in_ok-give.ensures (epoch_of []) c.in_ok-gate.ensures in
    let step_2 = c.in_ok-give-2.ensures (epoch_of (one ∷ [])) step_1.1 in
    IfOk-weaker c.give-3.result _ _ (λ a admits. sym (admits (epoch_of (one ∷ two ∷ [])) step_2.1).0.frames)
    c.give-3.ensures
