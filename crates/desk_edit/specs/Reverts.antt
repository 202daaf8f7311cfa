-- Why a revert is refused (own).
use Rattle.std.specs.Prelude.{ℕ, Bool, true, false, not, ◌&&◌, ◌||◌, List, [], ◌∷◌, reverse, length, fold}
use Rattle.std.specs.Prelude.{nat_eq, nat_lt, Option, Some, None, option_map, if◌then◌else◌}
use Rattle.std.specs.List.{list_any, sum_by}
use Rattle.std.specs.Option.{option_or}
use Rattle.desk_rows.specs.declared.key.Key.{Key}
use Rattle.desk_rows.specs.declared.key.Key.TheVariants as keys
use Rattle.desk_rows.specs.Desk.{Desk}
use Rattle.desk_edit.specs.declared.refusal.GroupRefusal.{GroupRefusal}
use Rattle.desk_edit.specs.declared.refusal.GroupRefusal.TheVariants as groups
use Rattle.desk_edit.specs.declared.refusal.Refusal.{Refusal}
use Rattle.desk_edit.specs.declared.refusal.Refusal.TheVariants.{NotInForce, TooFar, Conflict, Elsewhere, OutOfMemory}
use Rattle.desk_edit.specs.declared.refusal.Standing.TheVariants as standings
use Rattle.desk_edit.specs.Refusals.{has}
use Rattle.desk_edit.specs.AsIf.{first_in_the_way, is_moved, moved_keys}
use Rattle.desk_edit.specs.InForce.{Deed, CarriedOut, TookBack, Entry, is_struck, struck_by, in_force, commands_of}
use Rattle.desk_edit.specs.InForce.{carries}
use Rattle.desk_edit.specs.InForce.{desk_with, desk_in_force, took_back, lower, walked, kept, again}

-- how many commands and reverts a revert goes past at most
abbrev pub revert_limit : ℕ
revert_limit = 256

-- an entry of the history has this number
abbrev pub is_made : ℕ → List Entry → Bool
is_made number entries = list_any (λ e. nat_eq number e.number) entries

-- how much an entry counts: its commands, or one for a revert
abbrev pub weight : Deed → ℕ
weight (CarriedOut commands) = length commands
weight (TookBack number) = 1

-- more commands and reverts than the limit are gone past, those of the call itself apart
abbrev pub is_far : ℕ → List Entry → Bool
is_far number done =
    nat_lt revert_limit
    (sum_by (λ e. if nat_eq e.number number then 0 else weight e.deed) (walked number (reverse done)))

-- ---- a later command stands in the way

-- what stands in the way within a call of this number
abbrev pub in_call : ℕ → GroupRefusal → Refusal
in_call call (groups.Part part why) = Conflict call part why
in_call call groups.Empty = OutOfMemory
in_call call groups.TooLong = OutOfMemory
in_call call groups.OutOfMemory = OutOfMemory

-- the first command that stands in the way when entries are carried out again, one after another
abbrev pub conflict : Desk → List Entry → Option Refusal
conflict d [] = None
conflict d (e ∷ es) =
    option_or (option_map (in_call e.number) (first_in_the_way 0 d (commands_of e.deed))) (conflict (desk_with d e) es)

-- ---- somebody else would come or go

-- of the entries that a revert goes past, which stand the newest first, one that isn't carried out again brought or
-- took the row of this key
abbrev pub is_touched : Desk → List ℕ → ℕ → Key → List Entry → Bool
is_touched start struck low key [] = false
is_touched start struck low key (e ∷ es) =
    if nat_lt e.number low then false
    else (((is_struck struck e.number || not (carries e.deed))
    && is_moved (desk_in_force start (reverse es)) (desk_in_force start (reverse (e ∷ es))) key)
    || is_touched start (if is_struck struck e.number then struck else struck_by e.deed struck) (lower e.deed low)
    key es)

-- the refusal that names a row which others hang on
abbrev pub told_elsewhere : Key → Option Refusal
told_elsewhere (keys.Room room) = Some (Elsewhere standings.Room room)
told_elsewhere (keys.Member member) = Some (Elsewhere standings.Member member)
told_elsewhere (keys.Source ssrc) = Some (Elsewhere standings.Source ssrc)
told_elsewhere (keys.Slot out_ssrc) = Some (Elsewhere standings.Slot out_ssrc)
told_elsewhere (keys.Sub out_ssrc) = None
told_elsewhere (keys.Mute source) = None
told_elsewhere (keys.Gain member source) = None
told_elsewhere (keys.Pin room) = None
told_elsewhere (keys.Floor room) = None

-- the first of these keys that is told, though no call that isn't carried out again brought or took its row
abbrev pub elsewhere : Desk → ℕ → List Entry → List Key → Option Refusal
elsewhere start number done [] = None
elsewhere start number done (key ∷ ks) =
    option_or
    (if is_touched start (number ∷ []) number key (reverse done) then None else told_elsewhere key)
    (elsewhere start number done ks)

-- ---- all

-- the desk as if the call of this number had never been made
abbrev pub as_if : Desk → List Entry → ℕ → Desk
as_if start done number = fold desk_with (desk_in_force start (kept number done)) (again number done)

-- the first reason against taking a call back, as far as it is judged before it takes memory: no call of this number is
-- done, or it lies too far back
abbrev pub early_revert_refused : List Entry → ℕ → Option Refusal
early_revert_refused done number =
    if not (is_made number done) then Some NotInForce
    else (if is_far number done then Some (TooFar revert_limit) else None)

-- the first reason behind those: it was taken back already; a later command stands in the way; somebody else would
-- come or go
abbrev pub late_revert_refused : Desk → Desk → List Entry → ℕ → Option Refusal
late_revert_refused start d done number =
    if not (is_made number (in_force done)) then Some NotInForce
    else (option_or (conflict (desk_in_force start (kept number done)) (again number done))
    (elsewhere start number done (moved_keys d (as_if start done number))))
