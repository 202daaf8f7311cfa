use Rattle.event_loop.proofs.rounds.Rounds.wait_all.Goals as goal

pub returns : goal.returns
returns g c = c.wait_all-done.ensures
