-- So many inputs so far are the member's own.
use Rattle.std.proofs.Common.{◌≡◌, ◌≤◌, List, length, take, map}
use Rattle.mix_minus.specs.declared.input.Input.{Input}
use Rattle.mix_minus.specs.Mix.{own_of}
use Rattle.mixer.specs.inner.Counted.{member_of}
use Rattle.mixer.proofs.apart.own_count.Given as goal

abbrev pub invariant-loop-i : goal.invariant-loop-i
invariant-loop-i l = record {
  most : l.count ≤ l.i;
  count : (inputs : List Input) → l.members ≡ map member_of inputs
      → l.count ≡ length (own_of l.member (take l.i inputs));
}
