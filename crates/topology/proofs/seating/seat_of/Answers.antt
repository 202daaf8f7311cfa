use Rattle.std.proofs.Common.{Some, None, sym, ap, ◌∙◌}
use Rattle.std.specs.List.{slice_get}
use Rattle.topology.proofs.Seats.{seat_there}
use Rattle.topology.proofs.seating.seat_of.Goals as goal

pub returns-in_err-thing : goal.returns-in_err-thing
returns-in_err-thing g c =
    c.from_residual-in_err-thing.ensures
    ∙ sym (seat_there c.args.rows.now c.args.member c.in_ok-place.place None c.place_of.ensures.good
    (sym c.place_of.ensures.place ∙ c.in_ok-place.was) (sym c.in_err-thing.was
    ∙ c.standing_at.ensures
    ∙ ap (λ ms. slice_get ms c.in_ok-place.place) c.members.ensures.members))

pub returns : goal.returns
returns g c =
    sym (seat_there c.args.rows.now c.args.member c.in_ok-place.place (Some c.in_ok-thing.thing) c.place_of.ensures.good
    (sym c.place_of.ensures.place ∙ c.in_ok-place.was) (sym c.in_ok-thing.was
    ∙ c.standing_at.ensures
    ∙ ap (λ ms. slice_get ms c.in_ok-place.place) c.members.ensures.members))
