-- Edits as lists of one, and answers that are no refusals.
use Rattle.std.proofs.Common.{◌≡◌, ℕ, Bool, true, false, [], ◌∷◌, refl, sym, ap, ◌∙◌, cond, nat_eq, nat_lt, arith}
use Rattle.std.proofs.Common.{Option, None, Some, inl, inr}
use Rattle.std.specs.Prelude.{◌≤◌}
use Rattle.std.specs.Option.{option_or, option_map}
use Rattle.std.specs.Prelude.{◌≢◌, OnOk, OnErr, IfOk, IfErr, Result, Ok, Err}
use Rattle.std.specs.Result.{is_err}
use Rattle.std.proofs.lemmas.Bool.{and_from, cases_Bool}
use Rattle.std.proofs.lemmas.Bool.Decides.{nat_tests}
use Rattle.undo_log.specs.laws.ListLaws.{all_absorbed}
use Rattle.desk_rows.specs.Desk.{Desk}
use Rattle.desk_rows.specs.Edit.{EditOf}
use Rattle.desk_rows.specs.Exchange.{fits as one_fits, after as one_after}
use Rattle.desk_edit.specs.declared.refusal.Refusal.{Refusal}
use Rattle.desk_edit.specs.declared.refusal.Refusal.TheVariants.{OutOfMemory}
use Rattle.desk_edit.specs.declared.refusal.GroupRefusal.TheVariants.{Empty, TooLong}
use Rattle.desk_edit.specs.Groups.{size_refused}
use Rattle.desk_edit.specs.Reasons.{group_limit, refusal_of_group}
use Rattle.desk_calls.specs.Edits.{fits, after}

-- a list of one
pub one_of_list : (d : Desk) (e : EditOf) → one_fits d e ≡ true
    → (fits d (e ∷ []) ≡ true) × (after d (e ∷ []) ≡ one_after d e)
one_of_list d e fit =
    let all = and_from (one_fits d e) true fit refl in (all, all_absorbed one_fits one_after d (e ∷ []) all)

-- what holds of an answer that is no refusal
pub of_ok : {T E : Type 0} (P : Type 0) (r : Result T E) → false ≡ is_err r → OnOk r P → P
of_ok P (Ok x) e h = h
of_ok P (Err x) e h = absurd cc

-- what follows from each answer that is no refusal
pub free_of : {T E : Type 0} (r : Result T E) (P : T → Type 0) (Q : Type 0) → ((x : T) → P x → Q) → IfOk r P
    → OnOk r Q
free_of (Ok x) P Q f h = f x h
free_of (Err e) P Q f h = tt

-- a refusal that is out of memory is no other
pub only_memory : {T : Type 0} (r : Result T Refusal) (Q : Refusal → Type 0) → OnErr r (r ≡ Err OutOfMemory)
    → IfErr r (λ why. why ≢ OutOfMemory → Q why)
only_memory (Ok x) Q h = tt
only_memory (Err why) Q h =
    let same : why ≡ OutOfMemory = cc in λ other. absurd (other same)

-- ---- the size of a group

too_long : (empty : Bool) (o : Option Refusal)
    → option_or (option_map refusal_of_group (cond empty (Some Empty) (Some TooLong))) o ≡ None → ⊥
too_long true o h = absurd cc
too_long false o h = absurd cc

-- a group whose size is no reason against it has no more commands than the limit
pub few_commands : (n : ℕ) (o : Option Refusal) → option_or (option_map refusal_of_group (size_refused n)) o ≡ None
    → n ≤ group_limit
few_commands n o h = elim (cases_Bool (nat_lt group_limit n)) [
  | inl long ↦
      absurd (too_long (nat_eq n 0) o
      (ap (λ b. option_or (option_map refusal_of_group (cond (nat_eq n 0) (Some Empty) (cond b (Some TooLong) None))) o)
      (sym long)
      ∙ h))
  | inr few ↦ grind (arith, nat_tests, few)
]
