-- What is judged of a revert, put together.
use Rattle.std.specs.Prelude.{◌∷◌, ◌+◌, ◌≢◌}
use Rattle.std.proofs.Common.{◌≡◌, ℕ, Bool, true, false, not, cond, List, [], reverse, fold, take, length, nat_eq}
use Rattle.std.proofs.Common.{Option, None, Some, sym, ap, ◌∙◌}
use Rattle.std.specs.Option.{option_or}
use Rattle.desk_rows.specs.declared.key.Key.{Key}
use Rattle.desk_rows.specs.Desk.{Desk}
use Rattle.desk_rows.specs.Edit.{EditOf}
use Rattle.desk_rows.specs.Exchange.{fits as one_fits, after as one_after}
use Rattle.desk_edit.specs.Asked.CallOf.{Revert}
use Rattle.desk_edit.specs.declared.refusal.Refusal.{Refusal}
use Rattle.desk_edit.specs.declared.refusal.Refusal.TheVariants.{NotInForce, TooFar, LogFull, OutOfMemory}
use Rattle.desk_edit.specs.AsIf.{moved_keys}
use Rattle.desk_edit.specs.InForce.{Entry, from_newest, in_force, desk_with, desk_in_force, walked, stay, kept}
use Rattle.desk_edit.specs.InForce.{again, numbers_rise}
use Rattle.desk_edit.specs.Reverts.{revert_limit, is_made, is_far, conflict, elsewhere, as_if, early_revert_refused}
use Rattle.desk_edit.specs.Reverts.{late_revert_refused}
use Rattle.desk_edit.specs.Calls.{call_limit}
use Rattle.desk_edit.proofs.Forcing.{planned, kept_front}
use Rattle.desk_calls.specs.Edits.{fits, after}
use Rattle.desk_calls.specs.Desk.{DeskOf, call_refused, early_call_refused, IsReason, desk_without}
use Rattle.desk_calls.specs.Following.{HasCalled}
use Rattle.desk_calls.specs.inner.Touching.{elsewhere_by}
use Rattle.desk_calls.proofs.FollowLaws.{first_lead}
use Rattle.desk_calls.proofs.Planned.{one_of_list}
use Rattle.desk_calls.proofs.RevertLemmas.{kept_many, elsewhere_by_edits, entries_bridge}

-- ---- the first reason

never_memory : (made far : Bool) (why : Refusal)
    → cond (not made) (Some NotInForce) (cond far (Some (TooFar revert_limit)) None) ≡ Some why → why ≡ OutOfMemory → ⊥
never_memory false far why is memory = cc
never_memory true true why is memory = cc
never_memory true false why is memory = cc

pub judged_early : (d : DeskOf) (n : ℕ) (why : Refusal) → early_revert_refused d.history.done n ≡ Some why
    → IsReason d (Revert n) why
judged_early d n why early = (
  λ other.
      ap (λ o. option_or o (cond (nat_eq d.version call_limit) (Some LogFull)
      (late_revert_refused d.history.start d.desk d.history.done n))) early,
  λ memory. absurd (never_memory (is_made n d.history.done) (is_far n d.history.done) why early memory),
)

-- behind an early reason and a full log
behind : (d : DeskOf) (n : ℕ) (full : Bool) → early_revert_refused d.history.done n ≡ None
    → nat_eq d.version call_limit ≡ full
    → call_refused d (Revert n)
    ≡ cond full (Some LogFull) (late_revert_refused d.history.start d.desk d.history.done n)
behind d n full early is = λ i.
    option_or (early i) (cond (is i) (Some LogFull) (late_revert_refused d.history.start d.desk d.history.done n))

pub behind_early : (d : DeskOf) (n : ℕ) (full : Bool) → early_revert_refused d.history.done n ≡ None
    → nat_eq d.version call_limit ≡ full → early_call_refused d (Revert n) ≡ cond full (Some LogFull) None
behind_early d n full early is = λ i. option_or (early i) (cond (is i) (Some LogFull) None)

pub judged_full : (d : DeskOf) (n : ℕ) → early_revert_refused d.history.done n ≡ None
    → nat_eq d.version call_limit ≡ true → IsReason d (Revert n) LogFull
judged_full d n early full = (λ other. behind d n true early full, λ memory. absurd cc)

pub judged_late : (d : DeskOf) (n : ℕ) (why : Refusal) → early_revert_refused d.history.done n ≡ None
    → nat_eq d.version call_limit ≡ false
    → (why ≢ OutOfMemory → late_revert_refused d.history.start d.desk d.history.done n ≡ Some why)
    → IsReason d (Revert n) why
judged_late d n why early room late =
    (λ other. behind d n false early room ∙ late other, λ memory. behind_early d n false early room)

pub judged_free : (d : DeskOf) (n : ℕ) → early_revert_refused d.history.done n ≡ None
    → nat_eq d.version call_limit ≡ false → late_revert_refused d.history.start d.desk d.history.done n ≡ None
    → call_refused d (Revert n) ≡ None
judged_free d n early room late = behind d n false early room ∙ late

-- ---- behind those

-- what is left where the call is in force
in_the_way : (start d : Desk) (done : List Entry) (n : ℕ) (there : Bool) → is_made n (in_force done) ≡ there
    → late_revert_refused start d done n
    ≡ cond (not there) (Some NotInForce) (option_or (conflict (desk_in_force start (kept n done)) (again n done))
    (elsewhere start n done (moved_keys d (as_if start done n))))
in_the_way start d done n there is =
    ap (λ b. cond (not b) (Some NotInForce) (option_or (conflict (desk_in_force start (kept n done)) (again n done))
    (elsewhere start n done (moved_keys d (as_if start done n))))) is

pub late_missing : (start d : Desk) (done : List Entry) (n : ℕ) → is_made n (in_force done) ≡ false
    → late_revert_refused start d done n ≡ Some NotInForce
late_missing start d done n is = in_the_way start d done n false is

pub late_conflict : (start d : Desk) (done : List Entry) (n : ℕ) (why : Refusal) → is_made n (in_force done) ≡ true
    → conflict (desk_in_force start (kept n done)) (again n done) ≡ Some why
    → late_revert_refused start d done n ≡ Some why
late_conflict start d done n why is way =
    in_the_way start d done n true is
    ∙ ap (λ o. option_or o (elsewhere start n done (moved_keys d (as_if start done n)))) way

pub late_last : (start d : Desk) (done : List Entry) (n : ℕ) → is_made n (in_force done) ≡ true
    → conflict (desk_in_force start (kept n done)) (again n done) ≡ None
    → late_revert_refused start d done n ≡ elsewhere start n done (moved_keys d (as_if start done n))
late_last start d done n is way =
    in_the_way start d done n true is
    ∙ ap (λ o. option_or o (elsewhere start n done (moved_keys d (as_if start done n)))) way

-- ---- the rows

-- where the first edits lead
pub rows_before : (d : DeskOf) (n base : ℕ) → HasCalled d d.history
    → base ≡ length (stay n (reverse d.history.done))
    → fold after d.history.start (take base d.done) ≡ desk_in_force d.history.start (kept n d.history.done)
rows_before d n base called is =
    let h = d.history in
    first_lead base h.start [] h.done d.done called.follows
    ∙ ap (λ k. desk_in_force h.start (take k h.done)) (is ∙ kept_many n h.done)
    ∙ sym (ap (λ es. desk_in_force h.start es) (kept_front h.done n))

-- those that are carried out again
pub again_is : (n : ℕ) (done past : List Entry) → reverse past ≡ walked n (reverse done)
    → reverse (from_newest (n ∷ []) (reverse past)) ≡ again n done
again_is n done past is = ap (λ es. reverse (from_newest (n ∷ []) es)) is

pub one_bridge : (d : DeskOf) (n : ℕ) → HasCalled d d.history
    → (as_if d.history.start d.history.done n).bridge_ssrc ≡ d.desk.bridge_ssrc
one_bridge d n called =
    let h = d.history in
    entries_bridge (desk_in_force h.start (kept n h.done)) (again n h.done)
    ∙ entries_bridge h.start (in_force (kept n h.done))
    ∙ sym (ap (λ (x : Desk). x.bridge_ssrc) called.desk ∙ entries_bridge h.start (in_force h.done))

-- the edit leads to the desk without the call
pub leads_without : (d : DeskOf) (n : ℕ) (rows : Desk) (edit : EditOf) (edits : List EditOf)
    → numbers_rise d.history.done ≡ true → edits ≡ edit ∷ []
    → rows ≡ as_if d.history.start d.history.done n → one_fits d.desk edit ≡ true → one_after d.desk edit ≡ rows →
    (fits d.desk edits ≡ true) × (after d.desk edits ≡ desk_without d n)
leads_without d n rows edit edits rise one rows_is fit leads =
    let h = d.history in
    let alone = one_of_list d.desk edit fit in (
      ap (fits d.desk) one ∙ alone.0,
      ap (after d.desk) one
          ∙ alone.1
          ∙ leads
          ∙ rows_is
          ∙ sym (planned h.start h.done (h.accepted + 1) n rise),
    )

-- who would come or go, by the edits
pub elsewhere_is : (d : DeskOf) (n : ℕ) (past : List Entry) (edits : List (List EditOf)) (rows : Desk) (keys : List Key)
    → HasCalled d d.history → reverse past ≡ walked n (reverse d.history.done) → edits ≡ d.done
    → rows ≡ as_if d.history.start d.history.done n → keys ≡ moved_keys d.desk rows
    → elsewhere_by n (reverse past) (reverse edits) keys
    ≡ elsewhere d.history.start n d.history.done (moved_keys d.desk (as_if d.history.start d.history.done n))
elsewhere_is d n past edits rows keys called past_is edits_are rows_are keys_are =
    let h = d.history in
    let moved = moved_keys d.desk (as_if h.start h.done n) in
    (λ i. elsewhere_by n (past_is i) (reverse (edits_are i)) ((keys_are ∙ ap (moved_keys d.desk) rows_are) i))
    ∙ sym (elsewhere_by_edits h.start n h.done d.done moved called.follows)

-- ---- the rows without the call

pub as_if_rows : (d : DeskOf) (n base : ℕ) (old new : Desk) (struck : List ℕ) (past : List Entry)
    → HasCalled d d.history → base ≡ length (stay n (reverse d.history.done))
    → reverse past ≡ walked n (reverse d.history.done) → old ≡ fold after d.history.start (take base d.done)
    → struck ≡ n ∷ [] → new ≡ fold desk_with old (reverse (from_newest struck (reverse past)))
    → new ≡ as_if d.history.start d.history.done n
as_if_rows d n base old new struck past called base_is past_is old_is struck_is new_is =
    new_is
    ∙ (λ i. fold desk_with (old_is i) (reverse (from_newest (struck_is i) (reverse past))))
    ∙ (λ i. fold desk_with (rows_before d n base called base_is i) (again_is n d.history.done past past_is i))

pub as_if_way : (d : DeskOf) (n base : ℕ) (old : Desk) (struck : List ℕ) (past : List Entry) (o : Option Refusal)
    → HasCalled d d.history → base ≡ length (stay n (reverse d.history.done))
    → reverse past ≡ walked n (reverse d.history.done) → old ≡ fold after d.history.start (take base d.done)
    → struck ≡ n ∷ [] → conflict old (reverse (from_newest struck (reverse past))) ≡ o
    → conflict (desk_in_force d.history.start (kept n d.history.done)) (again n d.history.done) ≡ o
as_if_way d n base old struck past o called base_is past_is old_is struck_is way =
    sym ((λ i. conflict (old_is i) (reverse (from_newest (struck_is i) (reverse past))))
    ∙ (λ i. conflict (rows_before d n base called base_is i) (again_is n d.history.done past past_is i)))
    ∙ way
