use Rattle.std.proofs.Common.{◌≡◌, ◌≢◌, List, [], ◌∷◌, take, Option, None, Some, Ok, Err, ap, sym, ◌∙◌}
use Rattle.std.specs.Prelude.{Result, OnOk, IfErr}
use Rattle.desk_rows.specs.Desk.{Desk}
use Rattle.desk_edit.specs.declared.command.Command.{Command}
use Rattle.desk_edit.specs.declared.refusal.GroupRefusal.{GroupRefusal}
use Rattle.desk_edit.specs.declared.refusal.GroupRefusal.TheVariants.{OutOfMemory, Part}
use Rattle.desk_edit.specs.declared.refusal.Reason.TheVariants.{Exists}
use Rattle.desk_edit.specs.Refusals.{reason_against}
use Rattle.desk_edit.specs.Commands.{desk_after}
use Rattle.desk_edit.specs.Groups.{group_refused, part_refused}
use Rattle.worked_desk.specs.Commands.{add_room}
use Rattle.worked_desk.specs.TwoRooms.{two_rooms}
use Rattle.worked_desk.proofs.grouping.refuses_its_first_part.Goals as goal

-- what stands against a group is told, where memory doesn't run out before
told : {X : Type 0} (r : Result X GroupRefusal) (against : Option GroupRefusal) (why : GroupRefusal)
    → against ≡ Some why → OnOk r (against ≡ None) → IfErr r (λ e. e ≢ OutOfMemory → against ≡ Some e)
    → r ≢ Err OutOfMemory → r ≡ Err why
told (Ok x) against why is accepted first has = absurd cc
told (Err e) against why is accepted first has = let same = first (λ out. has (ap Err out)) in cc

pub returns : goal.returns
unfolding reason_against desk_after
returns c =
    let against =
    ap (λ (d : Desk). group_refused d c.args.commands.now) c.requires.desk
    ∙ ap (group_refused two_rooms) c.requires.commands in
    told c.plan_group.result (group_refused c.args.rows.now c.args.commands.now) (Part 0 Exists) against
    c.plan_group.ensures.accepted c.plan_group.ensures.first
    (λ out.
    let first : part_refused 0 two_rooms (add_room 1 ∷ []) ≡ None =
    ap (λ (cs : List Command). part_refused 0 two_rooms (take 1 cs)) (sym c.requires.commands)
    ∙ ap (λ (d : Desk). part_refused 0 d (take 1 c.args.commands.now)) (sym c.requires.desk)
    ∙ (c.plan_group.ensures.memory out).1 in
    absurd cc)
