use Rattle.std.proofs.Common.{◌∙◌, ◌<◌, length, sym, subst, ap}
use Rattle.std.specs.List.{All}
use Rattle.std.proofs.lemmas.Result.{IfOk-weaker}
use Rattle.desk_rows.specs.declared.row.Slot.{Slot}
use Rattle.topology.specs.declared.receivers.Receiver.{Receiver}
use Rattle.topology.specs.declared.seating.Seated.{Seated}
use Rattle.topology.specs.Receivers.{by_index, by_place, receiver}
use Rattle.topology.specs.inner.Seating.{by_places}
use Rattle.topology.proofs.Seats.{seats_within, seated_in_order}
use Rattle.topology.proofs.FromItsSide.{who_is_heard, takers_few}
use Rattle.topology.proofs.Order.{takers_in_order, no_receivers}
use Rattle.topology.proofs.receivers.receivers_of.Goals as goal

pub returns-in-None-clause-receivers : goal.returns-in-None-clause-receivers
returns-in-None-clause-receivers g c =
    c.new.ensures.items
    ∙ sym
    (no_receivers c.args.rows.now c.args.source c.args.address.now (sym c.sender_from.ensures.sender ∙ c.in-None.is))

pub returns-in_ok-seats-in-Some-clause-receivers : goal.returns-in_ok-seats-in-Some-clause-receivers
returns-in_ok-seats-in-Some-clause-receivers g c =
    let d = c.args.rows.now in
    let n = length d.members in
    let good = c.sender_from.ensures.good in
    let member = λ (s : Slot). s.member in
    let taken = c.in_ok-slots-in-Some.ensures in
    let made = c.in_ok-seats-in-Some.ensures in
    let within =
    subst (All (λ (t : Seated Receiver). t.place < n)) (sym made) (seats_within member receiver d c.deref.result.now) in
    let heard =
    who_is_heard d c.args.source c.args.address.now c.in-Some.sender
    (sym c.sender_from.ensures.sender ∙ c.in-Some.is) in
    IfOk-weaker c.by_places.result _ _ (λ v is.
    is n within
    ∙ ap (by_places n) made
    ∙ seated_in_order member receiver d c.deref.result.now good
    ∙ ap (by_place d.members) (c.deref.ensures.value ∙ c.in_ok-by_index-in-Some.ensures ∙ ap by_index taken.2)
    ∙ takers_in_order d c.args.source c.args.address.now c.in-Some.sender taken.0 good heard taken.1)
    c.by_places.ensures

pub takers-requires : goal.takers-requires
takers-requires g c =
    (who_is_heard c.args.rows.now c.args.source c.args.address.now c.in-Some.sender
    (sym c.sender_from.ensures.sender ∙ c.in-Some.is)).sends

pub by_index-requires : goal.by_index-requires
by_index-requires g c =
    let taken = c.in_ok-slots-in-Some.ensures in
    subst (All (λ (s : Slot). s.index < 16)) (sym taken.2)
    (takers_few c.args.rows.now c.args.source c.in-Some.sender taken.0 c.sender_from.ensures.good)
