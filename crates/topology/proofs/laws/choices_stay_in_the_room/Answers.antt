use Rattle.topology.proofs.InRoom.{in_room, sends_video, is_heard, of_others}
use Rattle.topology.proofs.Senders.{chosen_has_member}
use Rattle.topology.proofs.laws.choices_stay_in_the_room.Goals as goal

pub returns-clause-room : goal.returns-clause-room
returns-clause-room c = in_room

pub returns-clause-video : goal.returns-clause-video
returns-clause-video c = sends_video

pub returns-clause-heard : goal.returns-clause-heard
returns-clause-heard c = is_heard

pub returns-clause-sender : goal.returns-clause-sender
returns-clause-sender c = chosen_has_member

pub returns-clause-others : goal.returns-clause-others
returns-clause-others c = of_others
