use Rattle.published_desk.specs.Published.{after_list}
use Rattle.published_desk.proofs.ReaderSteps.{looks}
use Rattle.published_desk.proofs.reader.LaneReader.enter.Goals as goal

pub enter_as-requires : goal.enter_as-requires
enter_as-requires c = looks after_list _ _
