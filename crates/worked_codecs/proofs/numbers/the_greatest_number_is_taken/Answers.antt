use Rattle.frame_gate.specs.Epochs.{epoch_of}
use Rattle.std.proofs.Common.{[]}
use Rattle.std.proofs.lemmas.Result.{IfOk-weaker}
use Rattle.worked_codecs.proofs.numbers.the_greatest_number_is_taken.Goals as goal

pub returns : goal.returns
returns c =
    IfOk-weaker c.give.result _ _ (λ a admits. (admits (epoch_of []) c.in_ok-gate.ensures).0.place) c.give.ensures
