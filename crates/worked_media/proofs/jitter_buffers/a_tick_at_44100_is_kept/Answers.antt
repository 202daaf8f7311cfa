use Rattle.std.proofs.Common.{None}
use Rattle.worked_media.proofs.jitter_buffers.a_tick_at_44100_is_kept.Goals as goal

pub returns : goal.returns
returns c = (c.put.ensures.puts None c.in-Ok.ensures.blank).0
