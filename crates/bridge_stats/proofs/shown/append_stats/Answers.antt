use Rattle.std.proofs.Common.{◌++◌, Ok, ap}
use Rattle.std.specs.List.{flat_map}
use Rattle.bridge_stats.specs.Shown.{kind_text, source_line, stranger_line, left_out_text, others_text}
use Rattle.bridge_stats.specs.inner.Growing.{buffer_of}
use Rattle.bridge_stats.proofs.GrowLemmas.{grows_same, grows_then}
use Rattle.bridge_stats.proofs.shown.append_stats.Goals as goal

pub returns : goal.returns
returns g c =
    let shown = c.args.shown.now in
    let others = c.args.others.now in
    let old = buffer_of c.args.out.now in
    let mid = buffer_of c.append_lines.new.out in
    grows_then old mid (buffer_of c.append_behind_kinds.new.out) (flat_map kind_text shown.kinds.items)
    (flat_map source_line shown.sources.items
    ++ (flat_map stranger_line shown.strangers.items ++ (left_out_text shown others ++ others_text others)))
    c.append_behind_kinds.result
    (grows_same old mid _ _ (Ok tt) (ap (flat_map kind_text) c.deref.ensures.value) c.in_ok-append_lines.ensures)
    c.append_behind_kinds.ensures
