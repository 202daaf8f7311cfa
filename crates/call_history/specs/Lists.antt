-- Which accepted calls are in force, and which can be redone (own).
use Rattle.std.specs.Prelude.{ℕ, ◌-◌, List, [], ◌∷◌, ◌++◌, length, drop, fold, reverse, if◌then◌else◌}
use Rattle.desk_edit.specs.Asked.{CallOf}
use Rattle.desk_edit.specs.Asked.CallOf.{Apply, Group, Undo, Redo, Revert}
use Rattle.desk_edit.specs.InForce.{Deed, CarriedOut, TookBack, Entry, is_struck, struck_by}
use Rattle.desk_edit.specs.Calls.{front, final}
use Rattle.call_history.specs.AcceptedCall.{AcceptedOf}

-- the calls that are done, oldest first, and those that were undone and can be redone
pub record ListsOf : Type 0 where
  pub done : List AcceptedOf
  -- the last one was undone last
  pub undone : List AcceptedOf

-- before any call
abbrev pub no_lists : ListsOf
no_lists = record { done = []; undone = [] }

-- with one more accepted call: a command, a group or a revert is done, and what was undone can't be redone; an undo
-- moves the last call from one list to the other, and a redo moves it back
abbrev pub with_call : ListsOf → CallOf → AcceptedOf → ListsOf
with_call l (Apply command) m = record { done = l.done ++ m ∷ []; undone = [] }
with_call l (Group commands) m = record { done = l.done ++ m ∷ []; undone = [] }
with_call l (Undo last) m = record { done = front l.done; undone = l.undone ++ final l.done }
with_call l (Redo last) m = record { done = l.done ++ final l.undone; undone = front l.undone }
with_call l (Revert number) m = record { done = l.done ++ m ∷ []; undone = [] }

-- the lists of all accepted calls
abbrev pub lists_of : List AcceptedOf → ListsOf
lists_of made = fold (λ l (m : AcceptedOf). with_call l m.call m) no_lists made

-- what a call did that is no undo and no redo
abbrev pub deed_in : CallOf → Deed
deed_in (Apply command) = CarriedOut (command ∷ [])
deed_in (Group commands) = CarriedOut commands
deed_in (Undo last) = CarriedOut []
deed_in (Redo last) = CarriedOut []
deed_in (Revert number) = TookBack number

-- the entry of the history that stands for an accepted call
abbrev pub entry_of : AcceptedOf → Entry
entry_of m = record { number = m.number; deed = deed_in m.call }

-- those in force of calls that stand the newest first: a call is in force unless a newer one in force took it back
abbrev pub standing : List ℕ → List AcceptedOf → List AcceptedOf
standing struck [] = []
standing struck (m ∷ ms) =
    if is_struck struck m.number then standing struck ms else m ∷ standing (struck_by (deed_in m.call) struck) ms

-- the calls that are in force, oldest first
abbrev pub in_force : List AcceptedOf → List AcceptedOf
in_force done = reverse (standing [] (reverse done))

-- the last of a list, at most so many
abbrev pub last_few : {X : Type 0} → ℕ → List X → List X
last_few most xs = drop (length xs - most) xs

-- lists, and for how many more calls they have memory at least
pub record CallListsOf : Type 0 where
  pub lists : ListsOf
  pub spare : ℕ
