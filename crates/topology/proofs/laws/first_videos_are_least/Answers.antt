use Rattle.topology.proofs.LeastVideo.{is_video, is_least, there_is_none}
use Rattle.topology.proofs.laws.first_videos_are_least.Goals as goal

pub returns-clause-video : goal.returns-clause-video
returns-clause-video c = is_video

pub returns-clause-least : goal.returns-clause-least
returns-clause-least c = is_least

pub returns-clause-none : goal.returns-clause-none
returns-clause-none c = there_is_none
