use Rattle.std.proofs.Common.{◌∙◌}
use Rattle.std.proofs.lemmas.Result.{IfOk-weaker}
use Rattle.desk_groups.specs.Making.{lists_of}
use Rattle.desk_groups.specs.Rooms.{room_rows}
use Rattle.desk_groups.proofs.Groups.{made_beside}
use Rattle.desk_groups.proofs.Ranks.{plain_room}
use Rattle.desk_groups.proofs.grouping.groups_of_room.Goals as goal

pub returns-clause-accepted : goal.returns-clause-accepted
returns-clause-accepted g c =
    IfOk-weaker c.grouped.result _ _ (λ groups cut.
    (made_beside c.good_desks_stay_good.ensures (room_rows c.args.rows.now c.args.room)
    (plain_room c.args.rows.now c.args.room c.members-members.ensures.good) _
    (c.deref.ensures.value ∙ c.in_ok-commands.ensures) (lists_of groups.items) cut).accepted) c.grouped.ensures

pub returns-clause-beside : goal.returns-clause-beside
returns-clause-beside g c =
    IfOk-weaker c.grouped.result _ _ (λ groups cut.
    (made_beside c.good_desks_stay_good.ensures (room_rows c.args.rows.now c.args.room)
    (plain_room c.args.rows.now c.args.room c.members-members.ensures.good) _
    (c.deref.ensures.value ∙ c.in_ok-commands.ensures) (lists_of groups.items) cut).beside) c.grouped.ensures

pub returns-clause-few : goal.returns-clause-few
returns-clause-few g c =
    IfOk-weaker c.grouped.result _ _ (λ groups cut.
    (made_beside c.good_desks_stay_good.ensures (room_rows c.args.rows.now c.args.room)
    (plain_room c.args.rows.now c.args.room c.members-members.ensures.good) _
    (c.deref.ensures.value ∙ c.in_ok-commands.ensures) (lists_of groups.items) cut).few) c.grouped.ensures

pub returns-clause-sized : goal.returns-clause-sized
returns-clause-sized g c =
    IfOk-weaker c.grouped.result _ _ (λ groups cut.
    (made_beside c.good_desks_stay_good.ensures (room_rows c.args.rows.now c.args.room)
    (plain_room c.args.rows.now c.args.room c.members-members.ensures.good) _
    (c.deref.ensures.value ∙ c.in_ok-commands.ensures) (lists_of groups.items) cut).sized) c.grouped.ensures
