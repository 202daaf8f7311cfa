use Rattle.published_desk.specs.Published.{after_list}
use Rattle.published_desk.proofs.ReaderSteps.{admits, forks, merges}
use Rattle.published_desk.proofs.starting.seat.Goals as goal

pub reader-requires : goal.reader-requires
reader-requires c = admits after_list

pub tell-requires : goal.tell-requires
tell-requires c = forks after_list _ _

pub learn-requires-clause-rule : goal.learn-requires-clause-rule
learn-requires-clause-rule c = merges after_list _ _ _ _
