use Rattle.frame_gate.specs.Epochs.{epoch_of}
use Rattle.std.proofs.Common.{[], sym}
use Rattle.std.proofs.lemmas.Result.{IfOk-weaker}
use Rattle.worked_codecs.proofs.frames.the_first_piece_is_left_out.Goals as goal

pub returns-clause-frames : goal.returns-clause-frames
returns-clause-frames c =
    IfOk-weaker c.give.result _ _ (λ a admits. sym (admits (epoch_of []) c.in_ok-gate.ensures).0.frames) c.give.ensures

pub returns-clause-nacks : goal.returns-clause-nacks
returns-clause-nacks c =
    IfOk-weaker c.give.result _ _ (λ a admits. (admits (epoch_of []) c.in_ok-gate.ensures).0.nacks) c.give.ensures

pub returns-clause-pli : goal.returns-clause-pli
returns-clause-pli c =
    IfOk-weaker c.give.result _ _ (λ a admits. (admits (epoch_of []) c.in_ok-gate.ensures).0.pli) c.give.ensures
