use Rattle.std.proofs.Common.{◌≡◌, subst, ap}
use Rattle.std.specs.Prelude.{IfSome}
use Rattle.std.proofs.lemmas.Option.{IfSome_then}
use Rattle.desk_edit.specs.Asked.{asked_by}
use Rattle.operator_desk.specs.Entry.{EntryOf}
use Rattle.operator_desk.specs.Seats.{SeatOf}
use Rattle.worked_desk.specs.Has.{Has, unnamed}
use Rattle.worked_desk.proofs.Fronts.{has_front}
use Rattle.worked_desk.proofs.together.by_two.Goals as goal

pub returns-in-Some-Some-clause-first : goal.returns-in-Some-Some-clause-first
returns-in-Some-Some-clause-first g c =
    let s = c.in-Some-Some.one in
    let e : EntryOf = record { op = 0; call = asked_by c.args.first; stamp = unnamed } in
    let made = c.join-one.ensures.first in
    let has =
    subst
    (λ o.
    IfSome o
    (λ s. Has s.seen (record { op = c.args.one.op; call = asked_by c.args.first; stamp = unnamed }) × (s.count ≡ 1)))
    c.in-Some-Some.is-0 made in
    let own : Has s.seen e =
    subst (λ n. Has s.seen (record { op = n; call = asked_by c.args.first; stamp = unnamed }))
    (ap (λ (x : SeatOf). x.op) c.requires.seats.0) has.0 in
    IfSome_then c.gathered.result c.gathered.ensures.one (λ log p. has_front s.seen log.items e p own)

pub returns-in-Some-Some-clause-second : goal.returns-in-Some-Some-clause-second
returns-in-Some-Some-clause-second g c =
    let s = c.in-Some-Some.two in
    let e : EntryOf = record { op = 1; call = asked_by c.args.second; stamp = unnamed } in
    let made = c.join-one.ensures.second in
    let has =
    subst
    (λ o.
    IfSome o
    (λ s. Has s.seen (record { op = c.args.two.op; call = asked_by c.args.second; stamp = unnamed }) × (s.count ≡ 1)))
    c.in-Some-Some.is-1 made in
    let own : Has s.seen e =
    subst (λ n. Has s.seen (record { op = n; call = asked_by c.args.second; stamp = unnamed }))
    (ap (λ (x : SeatOf). x.op) c.requires.seats.1) has.0 in
    IfSome_then c.gathered.result c.gathered.ensures.two (λ log p. has_front s.seen log.items e p own)
