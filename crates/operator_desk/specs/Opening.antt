-- What a shared desk is opened with (own).
use Rattle.std.specs.Prelude.{ℕ, Option, Some, None, ◌||◌, nat_eq, nat_lt, if◌then◌else◌}
use Rattle.published_desk.specs.Published.{reader_limit}
use Rattle.operator_desk.specs.declared.fault.DeskFault.{DeskFault}
use Rattle.operator_desk.specs.declared.fault.DeskFault.TheVariants.{Count, Places}

-- the most operators of a desk (own)
abbrev pub most_operators : ℕ
most_operators = 16

-- the first fault of these numbers of operators and readers
abbrev pub desk_fault : ℕ → ℕ → Option DeskFault
desk_fault operators readers =
    if nat_eq operators 0 || nat_lt most_operators operators then Some Count
    else (if nat_eq readers 0 || nat_lt reader_limit readers then Some Places else None)
