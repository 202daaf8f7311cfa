use Rattle.call_history.proofs.DeskLists.{same_done, same_undone, force_of}
use Rattle.call_history.proofs.DeskLists.{edits_done, edits_undone, many_done, many_undone}
use Rattle.call_history.proofs.laws.lists_are_the_desks.Goals as goal

pub returns-clause-done : goal.returns-clause-done
returns-clause-done c start made numbered = same_done start made numbered

pub returns-clause-undone : goal.returns-clause-undone
returns-clause-undone c start made numbered = same_undone start made numbered

pub returns-clause-force : goal.returns-clause-force
returns-clause-force c start made numbered = force_of start made numbered

pub returns-clause-edits : goal.returns-clause-edits
returns-clause-edits c start made d numbered called =
    (edits_done start made d numbered called, edits_undone start made d numbered called)

pub returns-clause-many : goal.returns-clause-many
returns-clause-many c start made d numbered called =
    (many_done start made d numbered called, many_undone start made d numbered called)
