-- The sequence numbers so far.
use Rattle.std.proofs.Common.{◌≡◌, map, take}
use Rattle.sender_feedback.specs.Upstream.{seq_of}
use Rattle.sender_feedback.proofs.asking.seqs_of.Given as goal

abbrev pub invariant-loop-ext : goal.invariant-loop-ext
invariant-loop-ext g l = l.seqs.items ≡ map seq_of (take l.ext-index l.exts)
