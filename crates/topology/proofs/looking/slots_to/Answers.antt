use Rattle.std.proofs.Common.{nat_eq, filter}
use Rattle.topology.specs.Receivers.{slots_of}
use Rattle.topology.proofs.Seats.{rising_by_index}
use Rattle.topology.proofs.Order.{slots_to_few}
use Rattle.topology.proofs.looking.slots_to.Goals as goal

pub returns : goal.returns
returns g c =
    let d = c.args.rows.now in
    let member = c.args.member in
    rising_by_index (filter (λ s. nat_eq s.member member) (slots_of d)) c.slots_of.result.now
    (slots_to_few d member c.slots_of.ensures.good) c.slots_of.ensures.rising c.slots_of.ensures.exactly
