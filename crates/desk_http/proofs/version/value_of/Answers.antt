use Rattle.std.proofs.Common.{◌∙◌}
use Rattle.desk_http.proofs.VersionLemmas.{parsed, text_of_digits}
use Rattle.desk_http.proofs.version.value_of.Goals as goal

pub returns-in-Ok : goal.returns-in-Ok
returns-in-Ok c =
    c.ok.ensures.value
    ∙ parsed c.args.word.now c.parse.result c.requires (rw c.in-Ok.ensures.cases.0 at c.parse.ensures.value.0)

pub returns-in-Err : goal.returns-in-Err
returns-in-Err c = absurd (c.in-Err.ensures.cases.0 (text_of_digits c.args.word.now c.requires))
