use Rattle.std.proofs.Common.{filter_map, ◌∙◌, ap}
use Rattle.std.proofs.lemmas.Result.{IfOk-weaker}
use Rattle.topology.specs.Looking.{source_in}
use Rattle.topology.proofs.KindRows.{source_rows}
use Rattle.ingress.proofs.reporting.sources_of.Goals as goal

pub returns-clause-sources : goal.returns-clause-sources
returns-clause-sources g c =
    IfOk-weaker c.sources_in.result _ _
    (λ v e. e ∙ ap (filter_map source_in) c.others_of.ensures.rows ∙ source_rows c.args.rows.now) c.sources_in.ensures
