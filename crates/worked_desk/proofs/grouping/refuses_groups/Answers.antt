use Rattle.std.proofs.Common.{List, Option, option_map, refl}
use Rattle.desk_rows.specs.Desk.{Desk, blank}
use Rattle.desk_edit.specs.declared.command.Command.{Command}
use Rattle.desk_edit.specs.declared.refusal.Refusal.{Refusal}
use Rattle.desk_edit.specs.Commands.{desk_after}
use Rattle.desk_edit.specs.Reasons.{refusal_of_group}
use Rattle.desk_edit.specs.Refusals.{reason_against}
use Rattle.desk_edit.specs.Groups.{group_refused}
use Rattle.worked_desk.proofs.Computed.{answers}
use Rattle.worked_desk.specs.TwoRooms.{two_rooms}
use Rattle.worked_desk.specs.FullDesks.{of_rooms}
use Rattle.worked_desk.specs.GroupCases.{grouping, grouping_at_once, grouping_at_63_rooms}
use Rattle.worked_desk.proofs.grouping.refuses_groups.Goals as goal

abbrev against : Desk → List Command → Option Refusal
against d commands = option_map refusal_of_group (group_refused d commands)

pub returns-clause-two_rooms : goal.returns-clause-two_rooms
unfolding reason_against desk_after
returns-clause-two_rooms c = λ same has. answers against two_rooms grouping refl same (c.group_refusal.ensures has)

pub returns-clause-empty : goal.returns-clause-empty
unfolding reason_against desk_after
returns-clause-empty c = λ same has. answers against (blank 1) grouping_at_once refl same (c.group_refusal.ensures has)

pub returns-clause-rooms : goal.returns-clause-rooms
unfolding reason_against desk_after
returns-clause-rooms c = λ same has.
    answers against (of_rooms 63) grouping_at_63_rooms refl same (c.group_refusal.ensures has)
