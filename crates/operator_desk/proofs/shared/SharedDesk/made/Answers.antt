use Rattle.std.proofs.Common.{◌≡◌, subst, ◌∙◌}
use Rattle.std.specs.List.{All}
use Rattle.logbook.specs.Pages.{Book}
use Rattle.desk_rows.specs.Desk.{Desk}
use Rattle.published_desk.specs.Published.{ReaderOf, new_reader}
use Rattle.operator_desk.proofs.shared.SharedDesk.made.Goals as goal

pub returns-in-Ok-clause-readers : goal.returns-in-Ok-clause-readers
returns-in-Ok-clause-readers g c =
    let start = g.H.DeskBrand.start in
    let lanes = c.in-Ok.lanes.items in
    let named =
    subst (λ (book : Book). All (λ (l : ReaderOf). l ≡ new_reader book c.in_ok-rows.rows) lanes) c.requires.publisher
    c.in-Ok.ensures.readers in (
      c.in-Ok.ensures.count,
      subst (λ (desk : Desk). All (λ (l : ReaderOf). l ≡ new_reader g.H.DeskBrand.publisher desk) lanes)
          (c.in_ok-rows.ensures.desk ∙ c.requires.start) named,
    )
