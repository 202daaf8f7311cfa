use Rattle.std.proofs.Common.{◌≡◌, length, map, take}
use Rattle.topology.specs.declared.hearing.AudioSource.{AudioSource}
use Rattle.topology.specs.inner.Audible.{gain_among}
use Rattle.topology.proofs.hearing.write_each.Given as goal

abbrev pub invariant-loop-i : goal.invariant-loop-i
invariant-loop-i l =
    (length l.gains ≡ length l.sources)
    × (take l.i l.gains ≡ map (λ (s : AudioSource). gain_among l.own l.member s.ssrc) (take l.i l.sources))
