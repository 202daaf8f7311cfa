use Rattle.std.proofs.Common.{◌++◌, pos, ap, sym, ◌∙◌}
use Rattle.std.proofs.lemmas.Result.{IfOk-weaker}
use Rattle.frame_gate.specs.Packets.{numbered}
use Rattle.frame_gate.specs.Runs.{Divided, frames_in}
use Rattle.frame_gate.specs.Epochs.{epoch_after, epoch_of, run}
use Rattle.worked_codecs.proofs.dividing.lets_go_of_the_one_division.Goals as goal

pub returns : goal.returns
returns c = IfOk-weaker c.admit.result _ _ (λ a admits before d stands is.
    let then = epoch_after (epoch_of before) (numbered (pos 7) c.args.packet) in
    sym (admits (epoch_of before) stands).0.frames
    ∙ ap (λ (x : Divided). then.earlier ++ frames_in x) ((c.whole_division.ensures (run then)).1 d is))
    c.admit.ensures.ok
