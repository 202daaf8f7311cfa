use Rattle.std.specs.Prelude.{◌≡◌, ◌≤◌}
use Rattle.desk_edit.proofs.Words.{List, filter, IfOk, sym, ap, ◌∙◌, subst, arith, Row, kind_of, goes_within, level}
use Rattle.desk_edit.proofs.Words.{can_go, found_list}
use Rattle.desk_edit.proofs.removing.streams_going.Goals as goal
use Rattle.desk_edit.proofs.ByKinds.{kind_none}
use Rattle.desk_edit.proofs.GoneLemmas.{stream_alone, by_members, no_streams}

pub returns-then-not-can_go : goal.returns-then-not-can_go
returns-then-not-can_go g c =
    let x = c.args.going.now in
    let none = sym (c.can_go.ensures ∙ ap (can_go c.args.kind) c.kind.ensures) ∙ c.if-not-can_go.true in
    c.new.ensures.items ∙ sym (kind_none x.rows.now x.key c.args.kind none)

pub returns-then-level-eq2 : goal.returns-then-level-eq2
returns-then-level-eq2 g c =
    let x = c.args.going.now in
    let go = sym (c.can_go.ensures ∙ ap (can_go c.args.kind) c.kind.ensures) ∙ c.if-not-can_go.false in
    let top = sym (c.level.ensures ∙ ap level c.kind-2.ensures) ∙ c.if-level-eq2.true in
    let same =
    ap found_list c.find.ensures.row
    ∙ stream_alone x.rows.now x.key x.good c.requires.low c.args.kind c.requires.kind top go in
    subst (λ (xs : List Row). IfOk c.found_alone.result (λ v. v.items ≡ xs)) same c.found_alone.ensures

pub returns-then-nobody : goal.returns-then-nobody
returns-then-nobody g c =
    let x = c.args.going.now in
    let is = c.level.ensures ∙ ap level c.kind-2.ensures in
    let lower : level (kind_of x.key) ≤ 1 = omega (arith, is, c.requires.low, c.if-level-eq2.false) in
    c.new-then-nobody.ensures.items
    ∙ sym (no_streams x.rows.now x.key x.good c.requires.low (c.requires.nobody c.if-nobody.true) c.args.kind
    c.requires.kind lower)

pub returns : goal.returns
returns g c =
    let x = c.args.going.now in
    let is =
    ap (filter (goes_within 2 x.rows.now x.key)) c.others_of.ensures.rows
    ∙ by_members x.rows.now x.key x.good c.requires.low c.args.kind c.requires.kind in
    subst (λ (xs : List Row). IfOk c.going_by_members.result (λ v. v.items ≡ xs)) is c.going_by_members.ensures
