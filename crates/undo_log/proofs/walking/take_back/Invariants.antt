use Rattle.std.proofs.Common.{◌≡◌, ◌≤◌, true, take, length, fold}
use Rattle.undo_log.specs.Timeline.{all_fit}
use Rattle.undo_log.specs.Lists.{inverses}
use Rattle.undo_log.proofs.walking.take_back.Given as goal

abbrev pub invariant-loop-i : goal.invariant-loop-i
invariant-loop-i g l = record {
  within : l.i ≤ length l.edits;
  fit : all_fit g.S.Reversible.can_absorb g.S.Reversible.after l.state
      (inverses g.S.Reversible.inverse (take l.i l.edits))
      ≡ true;
  state : fold g.S.Reversible.after l.state (inverses g.S.Reversible.inverse (take l.i l.edits))
      ≡ fold g.S.Reversible.after l.fn.state (inverses g.S.Reversible.inverse l.edits);
}

abbrev pub decreases-loop-i : goal.decreases-loop-i
decreases-loop-i g l = l.i
