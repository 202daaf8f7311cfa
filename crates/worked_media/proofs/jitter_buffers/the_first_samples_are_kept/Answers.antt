use Rattle.std.proofs.Common.{None}
use Rattle.worked_media.proofs.jitter_buffers.the_first_samples_are_kept.Goals as goal

pub returns : goal.returns
returns c = (c.put.ensures.puts None c.in-Ok.ensures.blank).0
