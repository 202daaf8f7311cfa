use Rattle.std.specs.declared.vec.Vec.{Vec}
use Rattle.std.proofs.Common.{◌≡◌, true, length, Result, Ok, Err, IfOk}
use Rattle.desk_rows.specs.Desk.{Desk, blank, rows_of}
use Rattle.desk_edit.specs.declared.command.Command.{Command}
use Rattle.desk_groups.specs.Making.{AcceptsGroups, desk_after_groups, lists_of, are_sized, IsFew, MakeAgain}
use Rattle.operator_threads.proofs.making.made.Goals as goal

all_of : {A B E : Type 0} (d : Desk) (r : Result (Vec (Vec Command A) B) E)
    → IfOk r (λ groups. AcceptsGroups (blank d.bridge_ssrc) (lists_of groups.items))
    → IfOk r (λ groups. desk_after_groups (blank d.bridge_ssrc) (lists_of groups.items) ≡ d)
    → IfOk r (λ groups. are_sized (lists_of groups.items) ≡ true)
    → IfOk r (λ groups. IsFew (length (rows_of d)) (lists_of groups.items))
    → IfOk r (λ groups. MakeAgain d (lists_of groups.items))
all_of d (Ok groups) a b s f = record { accepted = a; again = b; sized = s; few = f }
all_of d (Err e) a b s f = tt

pub returns : goal.returns
returns c =
    all_of c.args.rows.now c.groups_of.result c.groups_of.ensures.accepted c.groups_of.ensures.again
    c.groups_of.ensures.sized c.groups_of.ensures.few
