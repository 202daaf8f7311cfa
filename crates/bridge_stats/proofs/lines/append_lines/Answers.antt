use Rattle.std.proofs.Common.{◌+◌, take, drop, get_or, sym, ap, Ok, Err}
use Rattle.std.proofs.lemmas.List.{take_all}
use Rattle.std.specs.List.{flat_map}
use Rattle.bridge_stats.specs.inner.Growing.{buffer_of}
use Rattle.bridge_stats.proofs.GrowLemmas.{grows_none, grows_then, grows_stop, grows_same, grows_err, one_more, others}
use Rattle.bridge_stats.proofs.lines.append_lines.Goals as goal

pub loop-row-init : goal.loop-row-init
loop-row-init g c = grows_none (buffer_of c.args.out.now)

pub loop-row-preserved : goal.loop-row-preserved
loop-row-preserved g c =
    let xs = c.args.rows.now in
    let k = c.loop-row.row-index in
    let line = g.T.StatLine.line in
    let d = c.row-item.result in
    let is = ap line c.row-item.is in
    let old = buffer_of c.args.out.now in
    let new = buffer_of c.append.new.out in
    grows_same old new _ _ (Ok tt) (sym (one_more line xs k d c.loop-row-test.true))
    (grows_then old (buffer_of c.loop-row.out) new (flat_map line (take k xs)) (line (get_or xs k d))
    (Ok tt)
    c.loop-row.invariant (grows_same (buffer_of c.loop-row.out) new _ _ (Ok tt) is c.in_ok-append.ensures))

pub returns-in_err-append : goal.returns-in_err-append
returns-in_err-append g c =
    let xs = c.args.rows.now in
    let k = c.loop-row.row-index in
    let line = g.T.StatLine.line in
    let d = c.row-item.result in
    let is = ap line c.row-item.is in
    let e = c.in_err-append.field-0.0 in
    let old = buffer_of c.args.out.now in
    let new = buffer_of c.append.new.out in
    grows_err old new _ _ e c.from_residual.ensures.0
    (grows_same old new _ _ (Err e) (others line xs (k + 1))
    (grows_stop old new (flat_map line (take (k + 1) xs)) (flat_map line (drop (k + 1) xs)) e
    (grows_same old new _ _ (Err e) (sym (one_more line xs k d c.loop-row-test.true))
    (grows_then old (buffer_of c.loop-row.out) new (flat_map line (take k xs)) (line (get_or xs k d))
    (Err e)
    c.loop-row.invariant (grows_same (buffer_of c.loop-row.out) new _ _ (Err e) is c.in_err-append.ensures)))))

pub returns : goal.returns
returns g c =
    let xs = c.args.rows.now in
    grows_same (buffer_of c.args.out.now) (buffer_of c.loop-row.out) _ _ (Ok tt)
    (ap (flat_map g.T.StatLine.line) (take_all c.loop-row.row-index xs c.loop-row-test.false))
    c.loop-row.invariant
