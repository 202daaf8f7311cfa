use Rattle.std.proofs.Common.{◌+◌, take, drop, get_or, sym, ap, Ok, Err, ◌∙◌}
use Rattle.std.proofs.lemmas.List.{take_all}
use Rattle.std.specs.List.{flat_map}
use Rattle.desk_text.specs.inner.Growing.{buffer_of}
use Rattle.desk_text.specs.inner.Pieces.{line_of_group}
use Rattle.desk_text.proofs.GrowLemmas.{grows_none, grows_then, grows_stop, grows_same, grows_err}
use Rattle.desk_text.proofs.LineLemmas.{groups_listed, same_group}
use Rattle.desk_text.proofs.RowLemmas.{one_more, others}
use Rattle.desk_text.proofs.groups.append_groups.Goals as goal

pub loop-group-init : goal.loop-group-init
loop-group-init g c = grows_none (buffer_of c.args.out.now)

pub loop-group-preserved : goal.loop-group-preserved
loop-group-preserved g c =
    let xs = c.args.groups.now in
    let k = c.loop-group.group-index in
    let d = c.group-item.result in
    let is = same_group _ _ _ c.deref.ensures.value c.group-item.is in
    let old = buffer_of c.args.out.now in
    let new = buffer_of c.append_group_line.new.out in
    grows_same old new _ _ (Ok tt) (sym (one_more line_of_group xs k d c.loop-group-test.true))
    (grows_then old (buffer_of c.loop-group.out) new (flat_map line_of_group (take k xs))
    (line_of_group (get_or xs k d)) (Ok tt) c.loop-group.invariant
    (grows_same (buffer_of c.loop-group.out) new _ _ (Ok tt) is c.in_ok-append_group_line.ensures))

pub returns-in_err-append_group_line : goal.returns-in_err-append_group_line
returns-in_err-append_group_line g c =
    let xs = c.args.groups.now in
    let k = c.loop-group.group-index in
    let d = c.group-item.result in
    let is = same_group _ _ _ c.deref.ensures.value c.group-item.is in
    let e = c.in_err-append_group_line.field-0.0 in
    let old = buffer_of c.args.out.now in
    let new = buffer_of c.append_group_line.new.out in
    grows_err old new _ _ e c.from_residual.ensures.0
    (grows_same old new _ _ (Err e) (others line_of_group xs (k + 1) ∙ groups_listed xs)
    (grows_stop old new (flat_map line_of_group (take (k + 1) xs)) (flat_map line_of_group (drop (k + 1) xs)) e
    (grows_same old new _ _ (Err e) (sym (one_more line_of_group xs k d c.loop-group-test.true))
    (grows_then old (buffer_of c.loop-group.out) new (flat_map line_of_group (take k xs))
    (line_of_group (get_or xs k d)) (Err e) c.loop-group.invariant
    (grows_same (buffer_of c.loop-group.out) new _ _ (Err e) is c.in_err-append_group_line.ensures)))))

pub returns : goal.returns
returns g c =
    let xs = c.args.groups.now in
    grows_same (buffer_of c.args.out.now) (buffer_of c.loop-group.out) _ _ (Ok tt)
    (ap (flat_map line_of_group) (take_all c.loop-group.group-index xs c.loop-group-test.false) ∙ groups_listed xs)
    c.loop-group.invariant
