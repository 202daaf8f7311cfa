use Rattle.std.specs.Prelude.{not, ◌&&◌, ◌||◌}
use Rattle.std.proofs.Common.{◌≡◌, true, false, sym, ap, ◌∙◌}
use Rattle.std.proofs.lemmas.List.{nil_from_length}
use Rattle.desk_edit.specs.InForce.{carries, is_struck}
use Rattle.desk_revert.specs.Moving.{bring_or_take}
use Rattle.desk_calls.proofs.RevertLemmas.{touch_here, touch_on, touch_none}
use Rattle.desk_calls.proofs.touching.is_touched.Goals as goal

pub returns-then-brings : goal.returns-then-brings
returns-then-brings g c =
    let l = c.loop-entry in
    let e = c.in-Some.entry.now in
    let edit = c.in-Some-split_last.edit.now in
    let told : ((is_struck l.struck.items e.number || not (carries e.deed)) && bring_or_take edit c.args.key) ≡ true =
    sym (c.brings.ensures
    ∙ ap (λ b. (b || not (carries e.deed)) && bring_or_take edit c.args.key) c.in_ok-is_out.ensures.out)
    ∙ c.if-brings.true in
    sym (touch_here l.struck.items c.args.key l.rest.now c.in-Some.earlier.now e l.left.now
    c.in-Some-split_last.before.now edit c.in-Some.ensures.cases.0 c.in-Some-split_last.ensures.cases.0 told)
    ∙ l.invariant

pub loop-entry-preserved : goal.loop-entry-preserved
loop-entry-preserved g c =
    let l = c.loop-entry in
    let e = c.in-Some.entry.now in
    let edit = c.in-Some-split_last.edit.now in
    let told : ((is_struck l.struck.items e.number || not (carries e.deed)) && bring_or_take edit c.args.key) ≡ false =
    sym (c.brings.ensures
    ∙ ap (λ b. (b || not (carries e.deed)) && bring_or_take edit c.args.key) c.in_ok-is_out.ensures.out)
    ∙ c.if-brings.false in
    touch_on l.struck.items c.pass.new.struck.items c.args.key l.rest.now c.in-Some.earlier.now e l.left.now
    c.in-Some-split_last.before.now edit c.in-Some.ensures.cases.0 c.in-Some-split_last.ensures.cases.0 told
    c.in_ok-is_out.ensures.next
    ∙ l.invariant

pub returns : goal.returns
returns g c =
    let l = c.loop-entry in
    sym (touch_none l.struck.items c.args.key l.rest.now l.left.now
    (nil_from_length l.rest.now c.in_default.ensures.cases))
    ∙ l.invariant
