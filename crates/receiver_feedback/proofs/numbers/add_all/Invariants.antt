use Rattle.std.proofs.Common.{◌≡◌, fold, drop}
use Rattle.receiver_feedback.specs.inner.Seen.{added, Marks}
use Rattle.receiver_feedback.proofs.numbers.add_all.Given as goal

abbrev pub invariant-loop-number : goal.invariant-loop-number
invariant-loop-number g l = record {
  marks : Marks l.marks l.numbers.items;
  rest : fold added l.numbers.items (drop l.number-index l.more) ≡ fold added l.fn.numbers.items l.fn.more;
}
