use Rattle.topology.proofs.Falls.{of_sub, above_first, of_pin, of_floor, of_nothing}
use Rattle.topology.proofs.laws.nothing_falls_through.Goals as goal

pub returns-clause-subscribed : goal.returns-clause-subscribed
returns-clause-subscribed c = of_sub

pub returns-clause-above : goal.returns-clause-above
returns-clause-above c = above_first

pub returns-clause-pinned : goal.returns-clause-pinned
returns-clause-pinned c = of_pin

pub returns-clause-floor : goal.returns-clause-floor
returns-clause-floor c = of_floor

pub returns-clause-unshown : goal.returns-clause-unshown
returns-clause-unshown c = of_nothing
