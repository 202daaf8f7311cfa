use Rattle.std.proofs.Common.{◌≡◌, length, subst}
use Rattle.std.specs.Prelude.{IfSome}
use Rattle.desk_rows.specs.Desk.{count_of}
use Rattle.desk_edit.specs.Asked.{asked_by}
use Rattle.published_desk.specs.Published.{after_lists}
use Rattle.operator_desk.specs.Answers.{IsAnswered}
use Rattle.worked_desk.proofs.Leading.{count_at_call}
use Rattle.worked_desk.proofs.telling.told_of.Goals as goal

pub returns-in-Some-default-clause-rows : goal.returns-in-Some-default-clause-rows
returns-in-Some-default-clause-rows g c =
    let desk = g.H.DeskBrand in
    let e = c.in-Some-default.entry in
    let reader = c.args.reader in
    let notice = c.in-Accepted.notice in
    let answered = IsAnswered desk.start desk.publisher c.args.seat.now c.call.new.seat (asked_by c.args.call)
    c.unnamed.result in
    let accepted = subst answered c.in-Accepted.is c.in-Ok.ensures.answer in
    let counted =
    subst
    (λ o.
    IfSome o
    (λ e. e.version ≡ length notice.lists → e.count ≡ count_of c.args.kind (after_lists reader.start notice.lists)))
    c.in-Some-default.is-0 c.read.ensures.rows in
    count_at_call desk.start reader.start c.call.new.seat.seen notice.lists c.args.kind c.in-Accepted.no
    e.version e.count c.requires.reader.1 accepted.tells.1 accepted.at counted
