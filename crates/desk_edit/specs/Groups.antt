-- Groups of commands (own): what they make of a desk, and when they are refused.
use Rattle.std.specs.Prelude.{ℕ, ◌+◌, List, [], ◌∷◌, nat_eq, nat_lt, length, fold, Option, Some, None, if◌then◌else◌}
use Rattle.std.specs.Option.{option_or}
use Rattle.desk_rows.specs.Desk.{Desk}
use Rattle.desk_edit.specs.declared.command.Command.{Command}
use Rattle.desk_edit.specs.declared.refusal.Reason.{Reason}
use Rattle.desk_edit.specs.declared.refusal.GroupRefusal.{GroupRefusal}
use Rattle.desk_edit.specs.declared.refusal.GroupRefusal.TheVariants.{Empty, TooLong, Part}
use Rattle.desk_edit.specs.Commands.{desk_after}
use Rattle.desk_edit.specs.Reasons.{group_limit}
use Rattle.desk_edit.specs.Refusals.{reason_against}

-- the desk after commands, one after another
abbrev pub desk_after_all : Desk → List Command → Desk
desk_after_all d commands = fold desk_after d commands

-- the reason against this command, or else against a later one
abbrev pub part_or_later : ℕ → Option Reason → Option GroupRefusal → Option GroupRefusal
part_or_later part (Some why) later = Some (Part part why)
part_or_later part None later = later

-- the reason against the first command that is refused on the desk after those before it; the first of all has this
-- number
abbrev pub part_refused : ℕ → Desk → List Command → Option GroupRefusal
part_refused part d [] = None
part_refused part d (command ∷ commands) =
    part_or_later part (reason_against d command) (part_refused (part + 1) (desk_after d command) commands)

-- a group has a command at least, and no more than the limit
abbrev pub size_refused : ℕ → Option GroupRefusal
size_refused count = if nat_eq count 0 then Some Empty else (if nat_lt group_limit count then Some TooLong else None)

-- the first reason against a group, out of memory apart
abbrev pub group_refused : Desk → List Command → Option GroupRefusal
group_refused d commands = option_or (size_refused (length commands)) (part_refused 0 d commands)
