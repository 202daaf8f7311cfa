use Rattle.std.proofs.Common.{◌+◌, [], take, drop, get_or, sym, ap, Ok, Err}
use Rattle.std.proofs.lemmas.List.{take_all}
use Rattle.std.specs.List.{flat_map}
use Rattle.bridge_stats.specs.declared.appending.LineField.TheVariants.{Words}
use Rattle.bridge_stats.specs.inner.Growing.{buffer_of}
use Rattle.bridge_stats.specs.inner.Said.{next_said}
use Rattle.bridge_stats.proofs.GrowLemmas.{grows_none, grows_then, grows_stop, grows_same, grows_err, one_more, others}
use Rattle.bridge_stats.proofs.appending.append_fields.Goals as goal

pub loop-field-init : goal.loop-field-init
loop-field-init g c = grows_none (buffer_of c.args.out.now)

pub loop-field-preserved : goal.loop-field-preserved
loop-field-preserved g c =
    let xs = c.args.fields.now in
    let k = c.loop-field.field-index in
    let d = Words (record { ref_ptr = (0, 0); now = [] }) in
    let old = buffer_of c.args.out.now in
    let new = buffer_of c.append_next.new.out in
    grows_same old new _ _ (Ok tt) (sym (one_more next_said xs k d c.loop-field-test.true))
    (grows_then old (buffer_of c.loop-field.out) new (flat_map next_said (take k xs)) (next_said (get_or xs k d))
    (Ok tt)
    c.loop-field.invariant c.in_ok-append_next.ensures)

pub returns-in_err-append_next : goal.returns-in_err-append_next
returns-in_err-append_next g c =
    let xs = c.args.fields.now in
    let k = c.loop-field.field-index in
    let d = Words (record { ref_ptr = (0, 0); now = [] }) in
    let e = c.in_err-append_next.field-0.0 in
    let old = buffer_of c.args.out.now in
    let new = buffer_of c.append_next.new.out in
    grows_err old new _ _ e c.from_residual.ensures.0
    (grows_same old new _ _ (Err e) (others next_said xs (k + 1))
    (grows_stop old new (flat_map next_said (take (k + 1) xs)) (flat_map next_said (drop (k + 1) xs)) e
    (grows_same old new _ _ (Err e) (sym (one_more next_said xs k d c.loop-field-test.true))
    (grows_then old (buffer_of c.loop-field.out) new (flat_map next_said (take k xs)) (next_said (get_or xs k d))
    (Err e)
    c.loop-field.invariant c.in_err-append_next.ensures))))

pub returns : goal.returns
returns g c =
    let xs = c.args.fields.now in
    grows_same (buffer_of c.args.out.now) (buffer_of c.loop-field.out) _ _ (Ok tt)
    (ap (flat_map next_said) (take_all c.loop-field.field-index xs c.loop-field-test.false))
    c.loop-field.invariant
