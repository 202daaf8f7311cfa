use Rattle.std.proofs.Common.{◌+◌, take, drop, get_or, sym, Ok, Err}
use Rattle.std.specs.List.{flat_map}
use Rattle.desk_rows.specs.declared.key.Kind.TheVariants as kinds
use Rattle.desk_text.specs.RowLines.{kind_lines, all_kinds}
use Rattle.desk_text.specs.inner.Growing.{buffer_of}
use Rattle.desk_text.proofs.GrowLemmas.{grows_none, grows_then, grows_stop, grows_same, grows_err}
use Rattle.desk_text.proofs.RowLemmas.{one_more, others}
use Rattle.desk_text.proofs.showing.print_kinds.Goals as goal

pub loop-kind-init : goal.loop-kind-init
loop-kind-init g c = grows_none (buffer_of c.args.out.now)

pub loop-kind-preserved : goal.loop-kind-preserved
loop-kind-preserved g c =
    let lines = kind_lines c.args.rows.now in
    let k = c.loop-kind.kind-index in
    let old = buffer_of c.args.out.now in
    let new = buffer_of c.print_kind.new.out in
    grows_same old new _ _ (Ok tt) (sym (one_more lines all_kinds k kinds.Room c.loop-kind-test.true))
    (grows_then old (buffer_of c.loop-kind.out) new (flat_map lines (take k all_kinds))
    (lines (get_or all_kinds k kinds.Room)) (Ok tt) c.loop-kind.invariant c.in_ok-print_kind.ensures)

pub returns-in_err-print_kind : goal.returns-in_err-print_kind
returns-in_err-print_kind g c =
    let lines = kind_lines c.args.rows.now in
    let k = c.loop-kind.kind-index in
    let e = c.in_err-print_kind.field-0.0 in
    let old = buffer_of c.args.out.now in
    let new = buffer_of c.print_kind.new.out in
    grows_err old new _ _ e c.from_residual.ensures.0
    (grows_same old new _ _ (Err e) (others lines all_kinds (k + 1))
    (grows_stop old new (flat_map lines (take (k + 1) all_kinds)) (flat_map lines (drop (k + 1) all_kinds)) e
    (grows_same old new _ _ (Err e) (sym (one_more lines all_kinds k kinds.Room c.loop-kind-test.true))
    (grows_then old (buffer_of c.loop-kind.out) new (flat_map lines (take k all_kinds))
    (lines (get_or all_kinds k kinds.Room)) (Err e) c.loop-kind.invariant c.in_err-print_kind.ensures))))
