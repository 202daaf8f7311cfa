use Rattle.std.proofs.Common.{◌≡◌, ◌≤◌, fold, take, length, reverse}
use Rattle.undo_log.specs.Timeline.{rewound}
use Rattle.undo_log.proofs.history.History.take_back_on.Given as goal

abbrev pub invariant-loop-i : goal.invariant-loop-i
invariant-loop-i g l = record {
  within : l.i ≤ length l.self-inside.done.items;
  above : l.left ≤ l.i;
  state : l.copy
      ≡ fold g.S.Reversible.after
      (rewound g.S.Reversible.after g.S.Reversible.inverse l.self-inside.state (reverse l.self-inside.done.items))
      (take l.i l.self-inside.done.items);
}

abbrev pub decreases-loop-i : goal.decreases-loop-i
decreases-loop-i g l = l.i
