-- The set has the items so far.
use Rattle.std.proofs.Common.{◌≡◌, [], take}
use Rattle.indexmap.specs.IndexSet.{insert_all}
use Rattle.picture_requests.proofs.collecting.set_of.Given as goal

abbrev pub invariant-loop-item : goal.invariant-loop-item
invariant-loop-item g l = l.set.keys ≡ insert_all g.T.PartialEq.eq [] (take l.item-index l.items)
