use Rattle.std.proofs.Common.{◌≡◌}
use Rattle.std.proofs.lemmas.List.Elements.{All-pop}
use Rattle.published_desk.specs.Published.{new_reader}
use Rattle.x_tests_lanes.proofs.lanes.last_of.Goals as goal

pub returns-clause-taken : goal.returns-clause-taken
returns-clause-taken g c =
    let h = g.H.DeskBrand in
    (All-pop (λ reader. reader ≡ new_reader h.publisher h.start) _ _ _ c.pop.ensures.items c.requires).1

pub returns-clause-left : goal.returns-clause-left
returns-clause-left g c =
    let h = g.H.DeskBrand in
    (All-pop (λ reader. reader ≡ new_reader h.publisher h.start) _ _ _ c.pop.ensures.items c.requires).0
