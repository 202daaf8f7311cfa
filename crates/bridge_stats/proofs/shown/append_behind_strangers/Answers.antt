use Rattle.std.proofs.Common.{Ok}
use Rattle.bridge_stats.specs.Shown.{left_out_text, others_text}
use Rattle.bridge_stats.specs.inner.Growing.{buffer_of}
use Rattle.bridge_stats.proofs.GrowLemmas.{grows_then}
use Rattle.bridge_stats.proofs.shown.append_behind_strangers.Goals as goal

pub returns : goal.returns
returns g c =
    let shown = c.args.shown.now in
    let others = c.args.others.now in
    grows_then (buffer_of c.args.out.now) (buffer_of c.append_left_out.new.out) (buffer_of c.append_others.new.out)
    (left_out_text shown others) (others_text others) c.append_others.result c.in_ok-append_left_out.ensures
    c.append_others.ensures
