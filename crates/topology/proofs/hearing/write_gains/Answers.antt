use Rattle.std.proofs.Common.{sym, ap, ◌∙◌, length}
use Rattle.desk_rows.specs.Order.{in_order}
use Rattle.topology.proofs.OwnGains.{own_order, each_by_own, is_nothing, all_full}
use Rattle.topology.proofs.hearing.write_gains.Goals as goal

pub write_each-requires-clause-order : goal.write_each-requires-clause-order
write_each-requires-clause-order g c =
    ap in_order c.gains_of-own.ensures.gains ∙ own_order c.args.rows.now c.args.member c.gains_of-own.ensures.good

pub returns-then-is_empty-clause-gains : goal.returns-then-is_empty-clause-gains
returns-then-is_empty-clause-gains g c =
    c.fill.ensures.after (λ y same. same)
    ∙ all_full c.args.rows.now c.args.member c.gains_of-own.result.now c.gains_of-own.ensures.gains
    (is_nothing c.gains_of-own.result.now (sym c.is_empty.ensures ∙ c.if-is_empty.true)) (length c.args.gains.now)
    c.args.sources.now c.requires

pub returns-else-is_empty-clause-gains : goal.returns-else-is_empty-clause-gains
returns-else-is_empty-clause-gains g c =
    c.write_each.ensures
    ∙ each_by_own c.args.rows.now c.args.member c.gains_of-own.result.now c.gains_of-own.ensures.gains
    c.args.sources.now
