use Rattle.std.proofs.Common.{[], ◌∷◌, pos, true, sym}
use Rattle.std.proofs.lemmas.Result.{IfOk-weaker}
use Rattle.frame_gate.specs.Packets.{numbered}
use Rattle.frame_gate.specs.Epochs.{epoch_of}
use Rattle.worked_codecs.specs.Fixtures.{given}
use Rattle.worked_codecs.proofs.cuts.at_256_the_gate_gives_up.Goals as goal

pub returns-clause-place : goal.returns-clause-place
returns-clause-place c =
    let one = numbered (pos 103) (given true 9000 (171 ∷ [])) in
    let two = numbered (pos 105) (given true 12000 (173 ∷ [])) in
    let step_1 = c.in_ok-give.ensures (epoch_of []) c.in_ok-gate.ensures in
    let step_2 = c.in_ok-give-2.ensures (epoch_of (one ∷ [])) step_1.1 in
    IfOk-weaker c.give-3.result _ _ (λ a admits. (admits (epoch_of (one ∷ two ∷ [])) step_2.1).0.place) c.give-3.ensures

pub returns-clause-frames : goal.returns-clause-frames
returns-clause-frames c =
    let one = numbered (pos 103) (given true 9000 (171 ∷ [])) in
    let two = numbered (pos 105) (given true 12000 (173 ∷ [])) in
    let step_1 = c.in_ok-give.ensures (epoch_of []) c.in_ok-gate.ensures in
    let step_2 = c.in_ok-give-2.ensures (epoch_of (one ∷ [])) step_1.1 in
    IfOk-weaker c.give-3.result _ _ (λ a admits. sym (admits (epoch_of (one ∷ two ∷ [])) step_2.1).0.frames)
    c.give-3.ensures

pub returns-clause-pli : goal.returns-clause-pli
returns-clause-pli c =
    let one = numbered (pos 103) (given true 9000 (171 ∷ [])) in
    let two = numbered (pos 105) (given true 12000 (173 ∷ [])) in
    let step_1 = c.in_ok-give.ensures (epoch_of []) c.in_ok-gate.ensures in
    let step_2 = c.in_ok-give-2.ensures (epoch_of (one ∷ [])) step_1.1 in
    IfOk-weaker c.give-3.result _ _ (λ a admits. (admits (epoch_of (one ∷ two ∷ [])) step_2.1).0.pli) c.give-3.ensures

pub returns-clause-nacks : goal.returns-clause-nacks
returns-clause-nacks c =
    let one = numbered (pos 103) (given true 9000 (171 ∷ [])) in
    let two = numbered (pos 105) (given true 12000 (173 ∷ [])) in
    let step_1 = c.in_ok-give.ensures (epoch_of []) c.in_ok-gate.ensures in
    let step_2 = c.in_ok-give-2.ensures (epoch_of (one ∷ [])) step_1.1 in
    IfOk-weaker c.give-3.result _ _ (λ a admits. (admits (epoch_of (one ∷ two ∷ [])) step_2.1).0.nacks) c.give-3.ensures
