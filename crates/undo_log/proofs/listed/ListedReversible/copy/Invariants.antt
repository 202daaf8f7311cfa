use Rattle.std.proofs.Common.{◌≡◌, take}
use Rattle.undo_log.proofs.listed.ListedReversible.copy.Given as goal

abbrev pub invariant-loop-one : goal.invariant-loop-one
invariant-loop-one g l = l.items.items ≡ take l.one-index l.one-items
