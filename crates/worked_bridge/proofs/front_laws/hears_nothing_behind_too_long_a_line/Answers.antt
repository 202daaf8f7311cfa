use Rattle.std.proofs.Common.{[], sym, ◌∙◌, append-nil}
use Rattle.std.proofs.lemmas.List.{append_cancel_left}
use Rattle.std.proofs.lemmas.Result.{IfOk-weaker}
use Rattle.operator_lines.specs.Cut.{lines_of}
use Rattle.operator_lines.specs.Fed.{texts}
use Rattle.worked_bridge.proofs.front_laws.hears_nothing_behind_too_long_a_line.Goals as goal

pub returns-clause-none : goal.returns-clause-none
returns-clause-none c = IfOk-weaker c.feed.result _ _ (λ fed answers before stands long.
    append_cancel_left (lines_of before) (texts fed.lines.items) []
    (sym (answers before stands).new_lines
    ∙ c.too_long_for_good.ensures.no_line before c.args.octets.now long
    ∙ sym (append-nil (lines_of before))))
    c.feed.ensures.fed
