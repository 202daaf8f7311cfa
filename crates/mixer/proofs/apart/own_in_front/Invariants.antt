-- The inputs so far are the member's own.
use Rattle.std.proofs.Common.{◌≡◌, [], take}
use Rattle.mix_minus.specs.Mix.{own_of, others_of}
use Rattle.mixer.proofs.apart.own_in_front.Given as goal

abbrev pub invariant-loop-i : goal.invariant-loop-i
invariant-loop-i l = record {
  own : own_of l.member (take l.i l.inputs) ≡ take l.i l.inputs;
  others : others_of l.member (take l.i l.inputs) ≡ [];
}
