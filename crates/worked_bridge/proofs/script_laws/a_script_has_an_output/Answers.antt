use Rattle.std.proofs.lemmas.Result.{IfOk-weaker}
use Rattle.worked_bridge.proofs.script_laws.a_script_has_an_output.Goals as goal

pub returns : goal.returns
returns c =
    let one = c.output.ensures.ok.some in
    IfOk-weaker c.output.result _ _ (λ out is. (one.0, one.1, is.1)) one.2
