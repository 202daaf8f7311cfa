use Rattle.std.proofs.Common.{◌≡◌, true, refl, subst}
use Rattle.desk_rows.specs.Desk.{Desk, good}
use Rattle.bridge_server.proofs.opening.open_in.Goals as goal

pub run-requires-clause-first : goal.run-requires-clause-first
unfolding good
run-requires-clause-first g c κs within = subst (λ (desk : Desk). good desk ≡ true) c.requires.start refl
