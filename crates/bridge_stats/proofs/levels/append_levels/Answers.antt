use Rattle.std.proofs.Common.{◌+◌, take, drop, sym, ap, Ok, Err}
use Rattle.std.proofs.lemmas.List.{take_all}
use Rattle.std.specs.List.{flat_map}
use Rattle.bridge_stats.specs.Levels.{level_text}
use Rattle.bridge_stats.specs.inner.Growing.{buffer_of}
use Rattle.bridge_stats.proofs.GrowLemmas.{grows_none, grows_then, grows_stop, grows_same, grows_err, one_more, others}
use Rattle.bridge_stats.proofs.levels.append_levels.Goals as goal

pub loop-row-init : goal.loop-row-init
loop-row-init g c = grows_none (buffer_of c.args.out.now)

pub loop-row-preserved : goal.loop-row-preserved
loop-row-preserved g c =
    let xs = c.args.rows.now in
    let k = c.loop-row.row-index in
    let old = buffer_of c.args.out.now in
    let new = buffer_of c.append_level.new.out in
    grows_same old new _ _ (Ok tt) (sym (one_more level_text xs k _ c.loop-row-test.true))
    (grows_then old (buffer_of c.loop-row.out) new (flat_map level_text (take k xs)) _ (Ok tt) c.loop-row.invariant
    c.in_ok-append_level.ensures)

pub returns-in_err-append_level : goal.returns-in_err-append_level
returns-in_err-append_level g c =
    let xs = c.args.rows.now in
    let k = c.loop-row.row-index in
    let e = c.in_err-append_level.field-0.0 in
    let old = buffer_of c.args.out.now in
    let new = buffer_of c.append_level.new.out in
    grows_err old new _ _ e c.from_residual.ensures.0
    (grows_same old new _ _ (Err e) (others level_text xs (k + 1))
    (grows_stop old new (flat_map level_text (take (k + 1) xs)) (flat_map level_text (drop (k + 1) xs)) e
    (grows_same old new _ _ (Err e) (sym (one_more level_text xs k _ c.loop-row-test.true))
    (grows_then old (buffer_of c.loop-row.out) new (flat_map level_text (take k xs)) _ (Err e) c.loop-row.invariant
    c.in_err-append_level.ensures))))

pub returns : goal.returns
returns g c =
    let xs = c.args.rows.now in
    grows_same (buffer_of c.args.out.now) (buffer_of c.loop-row.out) _ _ (Ok tt)
    (ap (flat_map level_text) (take_all c.loop-row.row-index xs c.loop-row-test.false))
    c.loop-row.invariant
