-- Which entries of a history are in force, and the desk that they lead to (own).
use Rattle.std.specs.Prelude.{ℕ, Bool, true, false, not, ◌&&◌, ◌||◌, List, [], ◌∷◌, reverse, fold, nat_eq, nat_lt, min}
use Rattle.std.specs.Prelude.{if◌then◌else◌, Option, Some, None}
use Rattle.std.specs.List.{list_any, list_all}
use Rattle.desk_rows.specs.Desk.{Desk}
use Rattle.desk_edit.specs.declared.command.Command.{Command}
use Rattle.desk_edit.specs.Groups.{desk_after_all}

-- what an accepted call did that is no undo and no redo: it carried commands out, or took the call of a number back
pub data Deed : Type 0 where
  CarriedOut : (commands : List Command) → Deed
  TookBack : (number : ℕ) → Deed

-- an entry of the history: the number of its call, and what that did
pub record Entry : Type 0 where
  pub number : ℕ
  pub deed : Deed

-- it carried commands out
abbrev pub carries : Deed → Bool
carries (CarriedOut commands) = true
carries (TookBack number) = false

-- the numbers that are struck out by an entry that is in force
abbrev pub struck_by : Deed → List ℕ → List ℕ
struck_by (CarriedOut commands) struck = struck
struck_by (TookBack number) struck = number ∷ struck

abbrev pub is_struck : List ℕ → ℕ → Bool
is_struck struck number = list_any (nat_eq number) struck

-- those in force of entries that stand the newest first: an entry is in force unless a newer one in force took it back
abbrev pub from_newest : List ℕ → List Entry → List Entry
from_newest struck [] = []
from_newest struck (e ∷ es) =
    if is_struck struck e.number then from_newest struck es else e ∷ from_newest (struck_by e.deed struck) es

-- the entries that are in force, oldest first
abbrev pub in_force : List Entry → List Entry
in_force done = reverse (from_newest [] (reverse done))

-- the commands that an entry carries out
abbrev pub commands_of : Deed → List Command
commands_of (CarriedOut commands) = commands
commands_of (TookBack number) = []

-- the number of the call that an entry took back
abbrev pub taken_back : Deed → Option ℕ
taken_back (CarriedOut commands) = None
taken_back (TookBack number) = Some number

-- the desk after an entry of those in force
abbrev pub desk_with : Desk → Entry → Desk
desk_with d e = desk_after_all d (commands_of e.deed)

-- the desk that a history leads to: the command equations over what is in force
abbrev pub desk_in_force : Desk → List Entry → Desk
desk_in_force start done = fold desk_with start (in_force done)

-- the entry of a call that carries commands out
abbrev pub carried_out : ℕ → List Command → Entry
carried_out own commands = record { number = own; deed = CarriedOut commands }

-- the entry of a revert: its own number, and the number of the call that it takes back
abbrev pub took_back : ℕ → ℕ → Entry
took_back own number = record { number = own; deed = TookBack number }

-- ---- how far back a revert goes

-- the lowest number that is struck behind an entry and by it
abbrev pub lower : Deed → ℕ → ℕ
lower (CarriedOut commands) low = low
lower (TookBack number) low = min number low

-- of entries that stand the newest first, those from which on a revert carries out again: down to the call of the
-- lowest number, and to those that reverts among them took back
abbrev pub walked : ℕ → List Entry → List Entry
walked low [] = []
walked low (e ∷ es) = if nat_lt e.number low then [] else e ∷ walked (lower e.deed low) es

-- those behind the walked ones, which stay as they are
abbrev pub stay : ℕ → List Entry → List Entry
stay low [] = []
stay low (e ∷ es) = if nat_lt e.number low then e ∷ es else stay (lower e.deed low) es

-- each number is above all those behind it
abbrev pub falls : List Entry → Bool
falls [] = true
falls (e ∷ es) = list_all (λ x. nat_lt x.number e.number) es && falls es

-- each number is above all those before it
abbrev pub numbers_rise : List Entry → Bool
numbers_rise done = falls (reverse done)

-- the entries that a revert of this call leaves as they are
abbrev pub kept : ℕ → List Entry → List Entry
kept number done = reverse (stay number (reverse done))

-- those behind them that are in force when the call isn't, oldest first
abbrev pub again : ℕ → List Entry → List Entry
again number done = reverse (from_newest (number ∷ []) (walked number (reverse done)))

-- the entry of another call
abbrev pub is_other : ℕ → Entry → Bool
is_other number e = not (nat_eq e.number number)

-- the entry of another call, or one that carried commands out
abbrev pub is_plain : ℕ → Entry → Bool
is_plain number e = is_other number e || carries e.deed
