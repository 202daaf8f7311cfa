use Rattle.desk_revert.proofs.Following.{push_stands, undo_stands, redo_stands}
use Rattle.desk_revert.proofs.laws.edits_move_with_entries.Goals as goal

pub returns-clause-done : goal.returns-clause-done
returns-clause-done c fits after start done undone edits back entry es stands fit leads =
    push_stands fits after start done undone edits back entry es stands fit leads

pub returns-clause-undone : goal.returns-clause-undone
returns-clause-undone c fits after start done undone edits back entry es stands =
    undo_stands fits after start done undone edits back entry es stands

pub returns-clause-again : goal.returns-clause-again
returns-clause-again c fits after start done undone edits back entry es stands =
    redo_stands fits after start done undone edits back entry es stands
