use Rattle.std.proofs.Common.{◌∙◌, nat_eq}
use Rattle.indexmap.proofs.CallerLemmas.{insert_entry-new}
use Rattle.lane_wire.proofs.kept_streams.insert_last.Goals as goal

pub returns : goal.returns
returns c =
    c.in-Ok.ensures.entries ∙ insert_entry-new nat_eq c.args.streams.now c.args.ssrc c.args.kept c.requires.absent
