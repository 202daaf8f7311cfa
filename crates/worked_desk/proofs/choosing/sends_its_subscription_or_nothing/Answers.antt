use Rattle.std.proofs.Common.{◌∙◌}
use Rattle.topology.specs.Choice.{is_barred}
use Rattle.worked_desk.proofs.Falling.{only_this}
use Rattle.worked_desk.proofs.choosing.sends_its_subscription_or_nothing.Goals as goal

pub returns : goal.returns
returns c = λ slot source is subscribes.
    let chosen =
    c.choice.ensures.source
    ∙ c.nothing_falls_through.ensures.subscribed c.args.rows.now c.args.out_ssrc source slot is subscribes in
    only_this c.choice.result (is_barred c.args.rows.now slot source) source chosen
