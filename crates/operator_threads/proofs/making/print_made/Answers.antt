use Rattle.std.proofs.Common.{◌≡◌, ℕ, List, ◌++◌, Result, Ok, Err, OnOk, refl, sym, ap, subst}
use Rattle.std.specs.declared.alloc.AllocError.{AllocError}
use Rattle.desk_rows.specs.Desk.{Desk}
use Rattle.desk_edit.specs.declared.command.Command.{Command}
use Rattle.desk_groups.specs.Making.{MakeAgain, lists_of}
use Rattle.desk_text.specs.GroupsText.{groups_text, lists_in}
use Rattle.operator_threads.specs.Told.{TellsMaking}
use Rattle.operator_threads.proofs.making.print_made.Goals as goal

told : (d : Desk) (version : ℕ) (groups : List (List Command)) (before after : List ℕ)
    (r : Result (Unit {0}) AllocError) → MakeAgain d groups → OnOk r (after ≡ before ++ groups_text groups version)
    → OnOk r ((text : List ℕ) × (after ≡ before ++ text) × TellsMaking d version text)
told d version groups before after (Ok u) made is = (groups_text groups version, is, (groups, made, refl))
told d version groups before after (Err e) made is = tt

pub returns-clause-ok : goal.returns-clause-ok
returns-clause-ok c =
    told c.args.rows.now c.args.version (lists_in c.deref.result.now) c.args.out.now.items
    c.print_groups.new.out.items c.print_groups.result
    (subst (λ (groups : List (List Command)). MakeAgain c.args.rows.now groups)
    (sym (ap lists_of c.deref.ensures.value)) c.in_ok-groups.ensures)
    c.print_groups.ensures.ok
