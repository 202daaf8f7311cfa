use Rattle.std.proofs.Common.{◌≡◌}
use Rattle.std.proofs.lemmas.List.Elements.{All-pop}
use Rattle.published_desk.specs.Published.{new_reader}
use Rattle.x_tests_desk.proofs.telling.last_of.Goals as goal

pub returns : goal.returns
returns c =
    let p = c.args.publisher.now in
    (All-pop (λ reader. reader ≡ new_reader p.publisher p.start) _ _ _ c.pop.ensures.items c.requires).1
