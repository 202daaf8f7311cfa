use Rattle.desk_revert.proofs.Goodness.{sound_at_first, sound_on, good_now}
use Rattle.desk_revert.proofs.laws.histories_stay_sound.Goals as goal

pub returns-clause-begins : goal.returns-clause-begins
returns-clause-begins c start g = sound_at_first start g

pub returns-clause-goes_on : goal.returns-clause-goes_on
returns-clause-goes_on c h call sound free = sound_on h call sound free

pub returns-clause-good : goal.returns-clause-good
returns-clause-good c h sound = good_now h sound
