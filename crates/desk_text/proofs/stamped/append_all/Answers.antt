use Rattle.std.proofs.Common.{◌+◌, take, drop, get_or, sym, ap, Ok, Err}
use Rattle.std.proofs.lemmas.List.{take_all}
use Rattle.std.specs.List.{flat_map}
use Rattle.desk_text.specs.inner.Growing.{buffer_of}
use Rattle.desk_text.proofs.GrowLemmas.{grows_none, grows_then, grows_stop, grows_same, grows_err}
use Rattle.desk_text.proofs.RowLemmas.{one_more, others}
use Rattle.desk_text.specs.StampedText.{told_line}
use Rattle.desk_text.proofs.stamped.append_all.Goals as goal

pub loop-call-init : goal.loop-call-init
loop-call-init g c = grows_none (buffer_of c.args.out.now)

pub loop-call-preserved : goal.loop-call-preserved
loop-call-preserved g c =
    let f = told_line c.args.is_named in
    let xs = c.args.all.now in
    let k = c.loop-call.call-index in
    let d = c.call-item.result in
    let is = ap f c.call-item.is in
    let old = buffer_of c.args.out.now in
    let new = buffer_of c.append_told.new.out in
    grows_same old new _ _ (Ok tt) (sym (one_more f xs k d c.loop-call-test.true))
    (grows_then old (buffer_of c.loop-call.out) new (flat_map f (take k xs)) (f (get_or xs k d)) (Ok tt)
    c.loop-call.invariant (grows_same (buffer_of c.loop-call.out) new _ _ (Ok tt) is c.in_ok-append_told.ensures))

pub returns-in_err-append_told : goal.returns-in_err-append_told
returns-in_err-append_told g c =
    let f = told_line c.args.is_named in
    let xs = c.args.all.now in
    let k = c.loop-call.call-index in
    let d = c.call-item.result in
    let is = ap f c.call-item.is in
    let e = c.in_err-append_told.field-0.0 in
    let old = buffer_of c.args.out.now in
    let new = buffer_of c.append_told.new.out in
    grows_err old new _ _ e c.from_residual.ensures.0
    (grows_same old new _ _ (Err e) (others f xs (k + 1))
    (grows_stop old new (flat_map f (take (k + 1) xs)) (flat_map f (drop (k + 1) xs)) e
    (grows_same old new _ _ (Err e) (sym (one_more f xs k d c.loop-call-test.true))
    (grows_then old (buffer_of c.loop-call.out) new (flat_map f (take k xs)) (f (get_or xs k d)) (Err e)
    c.loop-call.invariant (grows_same (buffer_of c.loop-call.out) new _ _ (Err e) is c.in_err-append_told.ensures)))))

pub returns : goal.returns
returns g c =
    let xs = c.args.all.now in
    grows_same (buffer_of c.args.out.now) (buffer_of c.loop-call.out) _ _ (Ok tt)
    (ap (flat_map (told_line c.args.is_named)) (take_all c.loop-call.call-index xs c.loop-call-test.false))
    c.loop-call.invariant
