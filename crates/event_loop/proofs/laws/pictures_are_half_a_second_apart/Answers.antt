use Rattle.event_loop.proofs.SpacedLemmas.{rounds_apart}
use Rattle.event_loop.proofs.laws.pictures_are_half_a_second_apart.Goals as goal

pub returns : goal.returns
returns g c source turns old new rounds done fresh =
    rounds_apart source turns old.reader new.reader old.history new.history rounds done fresh
