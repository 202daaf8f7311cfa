use Rattle.std.proofs.Common.{◌∙◌}
use Rattle.script_text.proofs.BridgeLemmas.{rows_shown, on_ok}
use Rattle.script_text.proofs.answer.answer_show.Goals as goal

pub returns : goal.returns
returns g c =
    on_ok c.print_rows.result _ _ c.print_rows.ensures.ok (λ text bridge heard stands.
    (stands, text ∙ rw (c.requires, c.rows.ensures, c.version.ensures) (rows_shown c.args.core.now bridge stands)))
