use Rattle.std.proofs.Common.{map, ap, ◌∙◌, rules}
use Rattle.std.proofs.lemmas.Result.{IfOk-weaker}
use Rattle.std.proofs.lemmas.List.Sorted.{IsNonDecreasingBy-from_sort_by_key}
use Rattle.topology.specs.declared.seating.Seated.{Seated}
use Rattle.topology.proofs.Seats.{same_groups, in_order_by}
use Rattle.topology.proofs.seating.by_places.Goals as goal

pub returns : goal.returns
returns g c =
    let seats = c.args.seats.now.items in
    let sorted = c.sort_by_key.new.self.items in
    let place = λ (t : Seated g.row.T.Denot). t.place in
    let up =
    IsNonDecreasingBy-from_sort_by_key place sorted c.in_ok-sort_by_key.ensures.sorted (λ a r f' k. search rules) in
    let same = same_groups place seats sorted c.sort_by_key.ensures.stable (λ a r f' k. search rules) in
    IfOk-weaker c.things.result _ _
    (λ v is n within.
    is
    ∙ ap (map (λ (t : Seated g.row.T.Denot). t.thing)) (c.deref.ensures.value
    ∙ in_order_by place n seats sorted within up same))
    c.things.ensures
