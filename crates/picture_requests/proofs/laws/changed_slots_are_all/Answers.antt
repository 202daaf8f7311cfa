use Rattle.picture_requests.specs.Choices.{changed_to}
use Rattle.picture_requests.proofs.Once.{stands_once}
use Rattle.picture_requests.proofs.Changed.{all_changed, only_changed}
use Rattle.picture_requests.proofs.laws.changed_slots_are_all.Goals as goal

pub returns-clause-all : goal.returns-clause-all
returns-clause-all c = all_changed

pub returns-clause-only : goal.returns-clause-only
returns-clause-only c = only_changed

pub returns-clause-once : goal.returns-clause-once
returns-clause-once c before after source = stands_once source (changed_to before after)
