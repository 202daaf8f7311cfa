use Rattle.std.proofs.Common.{[], ◌++◌, List, ℕ, sym, ap, ◌∙◌}
use Rattle.operator_lines.specs.Cut.{lines_of}
use Rattle.operator_lines.specs.Fed.{texts}
use Rattle.worked_front.proofs.feeding.hears_show.Goals as goal

pub returns-clause-lines : goal.returns-clause-lines
returns-clause-lines c =
    let first = c.in_ok-first.ensures.fed [] c.new-lines.ensures in
    let kept = c.in_ok-first.ensures.kept [] c.new-lines.ensures in
    let second = c.in_ok-second.ensures.fed c.args.front.now kept in
    ap (λ (l : List (List ℕ)). l ++ texts c.in_ok-second.second.lines.items) (sym first.new_lines)
    ∙ (sym second.new_lines ∙ ap lines_of c.requires)
