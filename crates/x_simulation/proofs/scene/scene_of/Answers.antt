use Rattle.std.proofs.Common.{◌≡◌, All, sym, subst}
use Rattle.std.proofs.lemmas.List.Elements.{All-take}
use Rattle.published_desk.specs.Published.{ReaderOf, new_reader}
use Rattle.x_simulation.proofs.scene.scene_of.Goals as goal

pub media_of-requires-clause-readers : goal.media_of-requires-clause-readers
media_of-requires-clause-readers g c κs within =
    subst (λ xs. All (λ (reader : ReaderOf). reader ≡ new_reader g.H.DeskBrand.publisher g.H.DeskBrand.start) xs)
    (sym c.pop-own.ensures.rest)
    (All-take (λ (reader : ReaderOf). reader ≡ new_reader g.H.DeskBrand.publisher g.H.DeskBrand.start) _ _ c.requires)
