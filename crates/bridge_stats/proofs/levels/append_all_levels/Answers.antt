use Rattle.std.proofs.Common.{codes, Ok, ap}
use Rattle.std.specs.List.{flat_map}
use Rattle.bridge_stats.specs.Levels.{level_text}
use Rattle.bridge_stats.specs.inner.Growing.{buffer_of}
use Rattle.bridge_stats.proofs.GrowLemmas.{grows_same, grows_then}
use Rattle.bridge_stats.proofs.levels.append_all_levels.Goals as goal

pub returns : goal.returns
returns g c =
    let old = buffer_of c.args.out.now in
    let mid = buffer_of c.append_levels.new.out in
    grows_then old mid (buffer_of c.append.new.out) (flat_map level_text c.args.shown.now.sources.items) (codes "end\n")
    c.append.result
    (grows_same old mid _ _ (Ok tt) (ap (flat_map level_text) c.deref.ensures.value) c.in_ok-append_levels.ensures)
    c.append.ensures
