use Rattle.std.proofs.Common.{◌+◌, take, drop, get_or, sym, ap, Ok, Err}
use Rattle.std.proofs.lemmas.List.{take_all}
use Rattle.std.specs.List.{flat_map}
use Rattle.desk_rows.specs.declared.values.RowValue.TheVariants as rows
use Rattle.desk_text.specs.inner.Growing.{buffer_of}
use Rattle.desk_text.proofs.GrowLemmas.{grows_none, grows_then, grows_stop, grows_same, grows_err}
use Rattle.desk_text.proofs.RowLemmas.{one_more, others}
use Rattle.desk_text.specs.inner.Pieces.{next_value}
use Rattle.desk_text.proofs.telling.append_values.Goals as goal

pub loop-value-init : goal.loop-value-init
loop-value-init g c = grows_none (buffer_of c.args.out.now)

pub loop-value-preserved : goal.loop-value-preserved
loop-value-preserved g c =
    let xs = c.args.values.now in
    let k = c.loop-value.value-index in
    let d = rows.U16 0 in
    let old = buffer_of c.args.out.now in
    let new = buffer_of c.append_next.new.out in
    grows_same old new _ _ (Ok tt) (sym (one_more next_value xs k d c.loop-value-test.true))
    (grows_then old (buffer_of c.loop-value.out) new (flat_map next_value (take k xs)) (next_value (get_or xs k d))
    (Ok tt)
    c.loop-value.invariant c.in_ok-append_next.ensures)

pub returns-in_err-append_next : goal.returns-in_err-append_next
returns-in_err-append_next g c =
    let xs = c.args.values.now in
    let k = c.loop-value.value-index in
    let d = rows.U16 0 in
    let e = c.in_err-append_next.field-0.0 in
    let old = buffer_of c.args.out.now in
    let new = buffer_of c.append_next.new.out in
    grows_err old new _ _ e c.from_residual.ensures.0
    (grows_same old new _ _ (Err e) (others next_value xs (k + 1))
    (grows_stop old new (flat_map next_value (take (k + 1) xs)) (flat_map next_value (drop (k + 1) xs)) e
    (grows_same old new _ _ (Err e) (sym (one_more next_value xs k d c.loop-value-test.true))
    (grows_then old (buffer_of c.loop-value.out) new (flat_map next_value (take k xs)) (next_value (get_or xs k d))
    (Err e)
    c.loop-value.invariant c.in_err-append_next.ensures))))

pub returns : goal.returns
returns g c =
    let xs = c.args.values.now in
    grows_same (buffer_of c.args.out.now) (buffer_of c.loop-value.out) _ _ (Ok tt)
    (ap (flat_map next_value) (take_all c.loop-value.value-index xs c.loop-value-test.false)) c.loop-value.invariant
