use Rattle.std.proofs.Common.{ap, ◌∙◌}
use Rattle.desk_rows.specs.Order.{in_order}
use Rattle.topology.specs.inner.Audible.{gain_among}
use Rattle.topology.proofs.OwnGains.{own_order, told_by_own}
use Rattle.topology.proofs.hearing.gain_of.Goals as goal

pub gain_among-requires : goal.gain_among-requires
gain_among-requires g c =
    ap in_order c.gains_of.ensures.gains ∙ own_order c.args.rows.now c.args.member c.gains_of.ensures.good

pub returns : goal.returns
returns g c =
    c.gain_among.ensures
    ∙ ap (λ own. gain_among own c.args.member c.args.source) c.gains_of.ensures.gains
    ∙ told_by_own c.args.rows.now c.args.member c.args.source
