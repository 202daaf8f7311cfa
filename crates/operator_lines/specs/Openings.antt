-- What the first line of a connection is (own).
use Rattle.std.specs.Prelude.{ℕ, Bool, true, false, List, [], ◌∷◌, Result, Ok, Err}
use Rattle.desk_text.specs.declared.fault.Fault.{Fault}
use Rattle.desk_text.specs.declared.fault.Fault.TheVariants.{LineTooLong}
use Rattle.operator_lines.specs.Operators.{AskOf, asked_of, fault_line}
use Rattle.operator_lines.specs.declared.greeting.Beginning.{Beginning}
use Rattle.operator_lines.specs.declared.greeting.Beginning.TheVariants as begins
use Rattle.operator_lines.specs.declared.greeting.Opening.{Opening}
use Rattle.operator_lines.specs.declared.greeting.Opening.TheVariants.{Faulty, Good}

-- by what was read of it
abbrev pub opened_by : Result AskOf (ℕ × Fault) → Opening
opened_by (Ok ask) = Good
opened_by (Err fault) = Faulty

-- what it is: a faulty line, or a good one
abbrev pub opening_of : List ℕ → Opening
opening_of line = opened_by (asked_of line)

-- the answer of what was read: that of a fault
abbrev pub fault_told : Result AskOf (ℕ × Fault) → List ℕ
fault_told (Ok ask) = []
fault_told (Err fault) = fault_line fault.0 fault.1

-- what the connection is told without a seat: the fault of a faulty line, and else nothing
abbrev pub greeting_of : List ℕ → List ℕ
greeting_of line = fault_told (asked_of line)

-- how a connection begins with a line like this
abbrev pub begins_by : Opening → Beginning
begins_by Faulty = begins.Faulty
begins_by Good = begins.Good

-- the same by the lines that have come, and whether one that has not ended is too long
abbrev pub begins_as : List (List ℕ) → (is_too_long : Bool) → Beginning
begins_as [] false = begins.Waits
begins_as [] true = begins.Faulty
begins_as (line ∷ lines) is_too_long = begins_by (opening_of line)

-- what the connection is told then
abbrev pub beginning_told : List (List ℕ) → (is_too_long : Bool) → List ℕ
beginning_told [] false = []
beginning_told [] true = fault_line 0 LineTooLong
beginning_told (line ∷ lines) is_too_long = greeting_of line
