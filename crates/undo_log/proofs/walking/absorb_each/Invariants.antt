use Rattle.std.proofs.Common.{◌≡◌, true, length, fold}
use Rattle.undo_log.specs.Timeline.{all_fit}
use Rattle.undo_log.proofs.walking.absorb_each.Given as goal

abbrev pub invariant-loop-edit : goal.invariant-loop-edit
invariant-loop-edit g l = record {
  fit : all_fit g.S.Reversible.can_absorb g.S.Reversible.after l.state l.rest ≡ true;
  state : fold g.S.Reversible.after l.state l.rest ≡ fold g.S.Reversible.after l.fn.state l.fn.edits;
}

abbrev pub decreases-loop-edit : goal.decreases-loop-edit
decreases-loop-edit g l = length l.rest
