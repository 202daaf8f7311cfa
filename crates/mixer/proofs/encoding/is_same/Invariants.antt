-- Where no difference was seen, the samples so far are the same.
use Rattle.std.proofs.Common.{◌≡◌, true, take}
use Rattle.mixer.proofs.encoding.is_same.Given as goal

abbrev pub invariant-loop-i : goal.invariant-loop-i
invariant-loop-i l = l.same ≡ true → take l.i l.a ≡ take l.i l.b
