use Rattle.std.specs.Prelude.{[]}
use Rattle.desk_revert.proofs.Following.{all_lead, first_lead}
use Rattle.desk_revert.proofs.laws.edits_lead_with_entries.Goals as goal

pub returns-clause-all : goal.returns-clause-all
returns-clause-all c fits after start done edits follows = all_lead fits after start [] done edits follows

pub returns-clause-first : goal.returns-clause-first
returns-clause-first c fits after start done edits count follows =
    first_lead fits after start count [] done edits follows
