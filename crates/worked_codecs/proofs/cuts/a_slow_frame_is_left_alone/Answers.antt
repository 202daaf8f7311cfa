use Rattle.std.proofs.Common.{[], ◌∷◌, pos, true, false, sym, ap, ◌∙◌}
use Rattle.frame_gate.specs.Packets.{numbered}
use Rattle.frame_gate.specs.Epochs.{epoch_of}
use Rattle.frame_gate.specs.GivenUp.{GaveUp}
use Rattle.worked_codecs.specs.Fixtures.{given}
use Rattle.worked_codecs.proofs.cuts.a_slow_frame_is_left_alone.Goals as goal

pub returns-clause-frames : goal.returns-clause-frames
returns-clause-frames c =
    let one = numbered (pos 101) (given true 9000 (171 ∷ [])) in
    let two = numbered (pos 102) (given false 12000 (173 ∷ [])) in
    let three = numbered (pos 103) (given false 12000 (174 ∷ [])) in
    let step_1 = c.in_ok-give.ensures (epoch_of []) c.in_ok-gate.ensures in
    let step_2 = c.in_ok-give-2.ensures (epoch_of (one ∷ [])) step_1.1 in
    let step_3 = c.in_ok-give-3.ensures (epoch_of (one ∷ two ∷ [])) step_2.1 in
    let x =
    c.in_ok-prepared.ensures c.give_up.new.self c.give_up.ensures.gate (epoch_of (one ∷ two ∷ three ∷ [])) step_3.1 in
    ap (λ (a : GaveUp). a.frames) c.give_up.ensures.answer ∙ sym x.0.frames

pub returns-clause-pli : goal.returns-clause-pli
returns-clause-pli c =
    let one = numbered (pos 101) (given true 9000 (171 ∷ [])) in
    let two = numbered (pos 102) (given false 12000 (173 ∷ [])) in
    let three = numbered (pos 103) (given false 12000 (174 ∷ [])) in
    let step_1 = c.in_ok-give.ensures (epoch_of []) c.in_ok-gate.ensures in
    let step_2 = c.in_ok-give-2.ensures (epoch_of (one ∷ [])) step_1.1 in
    let step_3 = c.in_ok-give-3.ensures (epoch_of (one ∷ two ∷ [])) step_2.1 in
    let x =
    c.in_ok-prepared.ensures c.give_up.new.self c.give_up.ensures.gate (epoch_of (one ∷ two ∷ three ∷ [])) step_3.1 in
    ap (λ (a : GaveUp). a.pli) c.give_up.ensures.answer ∙ x.0.pli
