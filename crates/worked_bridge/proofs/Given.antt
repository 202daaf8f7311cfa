-- The call that a text spells, as it is returned.
use Rattle.std.proofs.Common.{◌≡◌, ◌≢◌, ℕ, List, [], ◌∷◌, take, Ok, Err, refl, ap, sym, subst, ◌∙◌}
use Rattle.std.specs.Prelude.{Result, IfOk, codes}
use Rattle.desk_edit.specs.declared.command.Command.{Command}
use Rattle.desk_edit.specs.declared.command.Call.{Call}
use Rattle.desk_edit.specs.declared.command.Call.TheVariants as calls
use Rattle.desk_edit.specs.Asked.{CallOf, asked_by}
use Rattle.desk_edit.specs.Asked.CallOf.{Apply, Undo, Revert}
use Rattle.desk_text.specs.declared.fault.Fault.{Fault}
use Rattle.desk_text.specs.declared.fault.ParseFault.{ParseFault}
use Rattle.desk_text.specs.declared.fault.ParseFault.TheVariants.{OutOfMemory, Line}
use Rattle.desk_text.specs.Words.{Gives}
use Rattle.desk_text.specs.Calls.{spoken_words}

-- one call alone asks this
abbrev pub Only : {A : Type 0} → Call A → CallOf → Type 0
Only {A} call asked = (x : Call A) → asked_by x ≡ asked → x ≡ call

pub only_undo : {A : Type 0} (last : ℕ) → Only {A = A} (calls.Undo last) (Undo last)
only_undo last (calls.Apply command) is = absurd cc
only_undo last (calls.Group commands) is = absurd cc
only_undo last (calls.Undo other) is = cc
only_undo last (calls.Redo other) is = absurd cc
only_undo last (calls.Revert number) is = absurd cc

pub only_revert : {A : Type 0} (number : ℕ) → Only {A = A} (calls.Revert number) (Revert number)
only_revert number (calls.Apply command) is = absurd cc
only_revert number (calls.Group commands) is = absurd cc
only_revert number (calls.Undo last) is = absurd cc
only_revert number (calls.Redo last) is = absurd cc
only_revert number (calls.Revert other) is = cc

pub only_command : {A : Type 0} (command : Command) → Only {A = A} (calls.Apply command) (Apply command)
only_command command (calls.Apply other) is = cc
only_command command (calls.Group commands) is = absurd cc
only_command command (calls.Undo last) is = absurd cc
only_command command (calls.Redo last) is = absurd cc
only_command command (calls.Revert number) is = absurd cc

-- a text whose first word is another than `group` wants no memory
pub needs_none : {A : Type 0} (r : Result (Call A) ParseFault) (text is_text : List ℕ)
    → (r ≡ Err OutOfMemory → take 1 (spoken_words text) ≡ codes "group" ∷ []) → text ≡ is_text
    → take 1 (spoken_words is_text) ≢ codes "group" ∷ [] → r ≢ Err OutOfMemory
needs_none r text is_text memory is other out =
    other (subst (λ (t : List ℕ). take 1 (spoken_words t) ≡ codes "group" ∷ []) is (memory out))

pub undo_is_other : codes "undo" ∷ [] ≢ codes "group" ∷ []
undo_is_other same = absurd cc

pub revert_is_other : codes "revert" ∷ [] ≢ codes "group" ∷ []
revert_is_other same = absurd cc

pub add_room_is_other : codes "add-room" ∷ [] ≢ codes "group" ∷ []
add_room_is_other same = absurd cc

pub add_member_is_other : codes "add-member" ∷ [] ≢ codes "group" ∷ []
add_member_is_other same = absurd cc

pub none_is_other : {X : Type 0} (x : X) → [] ≢ x ∷ []
none_is_other x same = absurd cc

-- the call that is read, where memory doesn't run out
pub given : {A : Type 0} (r : Result (Call A) ParseFault) (read : Result CallOf (ℕ × Fault)) (call : Call A)
    (asked : CallOf)
    → Only call asked → r ≢ Err OutOfMemory → read ≡ Ok asked → Gives asked_by r read → r ≡ Ok call
given (Ok x) read call asked only has is gives = ap Ok (only x cc)
given (Err OutOfMemory) read call asked only has is gives = absurd (has refl)
given (Err (Line word fault)) read call asked only has is gives = absurd cc

-- the fault that was read, if one was
abbrev fault_in : Result CallOf (ℕ × Fault) → ℕ × Fault → ℕ × Fault
fault_in (Ok x) other = other
fault_in (Err e) other = e

-- the fault that is read, where memory doesn't run out
pub refused : {A : Type 0} (r : Result (Call A) ParseFault) (read : Result CallOf (ℕ × Fault)) (word : ℕ)
    (fault : Fault)
    → r ≢ Err OutOfMemory → read ≡ Err (word, fault) → Gives asked_by r read → r ≡ Err (Line word fault)
refused (Ok x) read word fault has is gives = absurd cc
refused (Err OutOfMemory) read word fault has is gives = absurd (has refl)
refused {A} (Err (Line w f)) read word fault has is gives =
    let read_is : (w, f) ≡ (word, fault) = ap (λ (r : Result CallOf (ℕ × Fault)). fault_in r (w, f)) (sym gives ∙ is) in
    ap (λ (p : ℕ × Fault). Err (Line p.0 p.1)) read_is

-- what is read, where something is returned
pub asks : {A : Type 0} (r : Result (Call A) ParseFault) (read : Result CallOf (ℕ × Fault)) (asked : CallOf)
    → read ≡ Ok asked → Gives asked_by r read → IfOk r (λ call. asked_by call ≡ asked)
asks (Ok x) read asked is gives = cc
asks (Err why) read asked is gives = tt

-- no fault is told where a call is read
pub faultless : {A : Type 0} (r : Result (Call A) ParseFault) (read : Result CallOf (ℕ × Fault)) (asked : CallOf)
    → read ≡ Ok asked → Gives asked_by r read → (word : ℕ) (fault : Fault) → r ≢ Err (Line word fault)
faultless (Ok x) read asked is gives word fault same = absurd cc
faultless (Err OutOfMemory) read asked is gives word fault same = absurd cc
faultless (Err (Line w f)) read asked is gives word fault same = absurd cc

-- no call is returned where a fault is read, and it is the one that is told
pub callless : {A : Type 0} (r : Result (Call A) ParseFault) (read : Result CallOf (ℕ × Fault)) (word : ℕ)
    (fault : Fault)
    → read ≡ Err (word, fault) → Gives asked_by r read → IfOk r (λ call. ⊥)
callless (Ok x) read word fault is gives = absurd cc
callless (Err why) read word fault is gives = tt

-- the fault that is told, if one is
abbrev line_in : {A : Type 0} → Result (Call A) ParseFault → ℕ × Fault → ℕ × Fault
line_in (Ok x) other = other
line_in (Err OutOfMemory) other = other
line_in (Err (Line word fault)) other = (word, fault)

-- the fault that is told is the one that is read
pub told : {A : Type 0} (r : Result (Call A) ParseFault) (read : Result CallOf (ℕ × Fault)) (word : ℕ) (fault : Fault)
    → read ≡ Err (word, fault) → Gives asked_by r read → (w : ℕ) (f : Fault) → r ≡ Err (Line w f)
    → (w ≡ word) × (f ≡ fault)
told (Ok x) read word fault is gives w f same = absurd cc
told (Err OutOfMemory) read word fault is gives w f same = absurd cc
told {A} (Err (Line v e)) read word fault is gives w f same =
    let read_is : (v, e) ≡ (word, fault) = ap (λ (r : Result CallOf (ℕ × Fault)). fault_in r (v, e)) (sym gives ∙ is) in
    let told_is : (w, f) ≡ (v, e) = ap (λ (r : Result (Call A) ParseFault). line_in r (v, e)) (sym same) in
    (ap (λ (p : ℕ × Fault). p.0) (told_is ∙ read_is), ap (λ (p : ℕ × Fault). p.1) (told_is ∙ read_is))
