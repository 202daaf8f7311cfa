use Rattle.std.proofs.Common.{refl}
use Rattle.undo_log.specs.Lists.{after_all}
use Rattle.desk_rows.specs.Exchange.{fits, is_apt, exchanged, after}
use Rattle.desk_rows.specs.Desk.{good}
use Rattle.worked_desk.proofs.Computed.{answers}
use Rattle.worked_desk.specs.TwoRooms.{two_rooms}
use Rattle.worked_desk.specs.GroupCases.{absorbing_lists}
use Rattle.worked_desk.proofs.grouping.absorbs_a_list.Goals as goal

pub returns : goal.returns
unfolding fits is_apt exchanged after good
returns c = answers (after_all fits after) two_rooms absorbing_lists refl c.requires c.absorb.ensures
