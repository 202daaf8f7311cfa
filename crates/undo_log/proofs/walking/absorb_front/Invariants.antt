use Rattle.std.proofs.Common.{◌≡◌, true, take, fold}
use Rattle.undo_log.specs.Timeline.{all_fit}
use Rattle.undo_log.proofs.walking.absorb_front.Given as goal

abbrev pub invariant-loop-done : goal.invariant-loop-done
invariant-loop-done g l = record {
  fit : all_fit g.S.Reversible.can_absorb g.S.Reversible.after l.fn.state (take l.done l.edits) ≡ true;
  state : l.state ≡ fold g.S.Reversible.after l.fn.state (take l.done l.edits);
}
