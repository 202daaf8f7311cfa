-- Accepted calls lead from good desks to good desks.
use Rattle.std.specs.Prelude.{◌∷◌, ◌++◌, ◌+◌}
use Rattle.std.proofs.Common.{◌≡◌, ℕ, Bool, true, false, cond, List, [], reverse, fold, length, nat_eq, Option, None}
use Rattle.std.proofs.Common.{Some}
use Rattle.std.proofs.Common.{not, take, drop, inl, inr, refl, sym, ap, subst, ◌∙◌, append_assoc, append-nil}
use Rattle.std.specs.Prelude.{option_map}
use Rattle.std.specs.Option.{option_or}
use Rattle.desk_rows.specs.Desk.{Desk, good}
use Rattle.desk_rows.specs.laws.Laws.{fits_parts, after_fits}
use Rattle.desk_edit.specs.declared.command.Command.{Command}
use Rattle.desk_edit.specs.declared.refusal.Reason.{Reason}
use Rattle.desk_edit.specs.declared.refusal.GroupRefusal.{GroupRefusal}
use Rattle.desk_edit.specs.declared.refusal.Refusal.{Refusal}
use Rattle.desk_edit.specs.declared.refusal.Refusal.TheVariants.{LogFull, NotInForce}
use Rattle.desk_edit.specs.Asked.{CallOf as Call}
use Rattle.desk_edit.specs.Asked.CallOf.{Apply, Group, Undo, Redo, Revert}
use Rattle.desk_edit.specs.Forms.{form_of}
use Rattle.desk_edit.specs.Commands.{desk_after}
use Rattle.desk_edit.specs.Reasons.{refusal_of_group}
use Rattle.desk_edit.specs.Refusals.{reason_against, refused}
use Rattle.desk_edit.specs.Groups.{desk_after_all, part_or_later, part_refused, size_refused}
use Rattle.desk_edit.specs.AsIf.{is_idle, in_the_way, first_in_the_way, moved_keys}
use Rattle.desk_edit.specs.InForce.{Entry, commands_of, desk_with, desk_in_force, carried_out, took_back, kept, again}
use Rattle.desk_edit.specs.InForce.{in_force}
use Rattle.desk_edit.specs.Reverts.{in_call, conflict, elsewhere, as_if, is_made, early_revert_refused}
use Rattle.desk_edit.specs.Reverts.{late_revert_refused}
use Rattle.desk_edit.specs.Calls.{CallHistory, no_calls, desk_now, call_limit, or_log_full, refusal_of, after_call}
use Rattle.desk_edit.specs.Calls.{front, final, with_entry}
use Rattle.desk_edit.specs.inner.Edits.{edit_for}
use Rattle.desk_edit.proofs.Outcomes.{planned as led_by, unopposed}
use Rattle.desk_edit.proofs.Forcing.{planned, carried_on, kept_front}
use Rattle.desk_revert.specs.Sound.{AllGood, AreNumbered, IsSound}
use Rattle.desk_revert.proofs.Idle.{changes_nothing}
use Rattle.desk_revert.proofs.Numbered.{same_undone, same_redone, parted, final_turned, numbered_more, numbered_still}
use Rattle.desk_revert.proofs.Numbered.{rise_of}
use Rattle.std.proofs.lemmas.Bool.{cases_Bool}
use Rattle.std.proofs.lemmas.List.{reverse-append, take-append-drop}

-- ---- commands

allowed_good : (d : Desk) (c : Command) → good d ≡ true → reason_against d c ≡ None → good (desk_after d c) ≡ true
allowed_good d c g free =
    let e = edit_for d (form_of c) in
    let p = led_by d c g free in
    subst (λ (next : Desk). good next ≡ true) (sym (after_fits d e p.fits) ∙ p.leads) (fits_parts d e p.fits).later

none_first : (part : ℕ) (first : Option Reason) (later : Option GroupRefusal) → part_or_later part first later ≡ None
    → (first ≡ None) × (later ≡ None)
none_first part None later is = (refl, is)
none_first part (Some why) later is = absurd cc

group_good : (part : ℕ) (d : Desk) (commands : List Command) → good d ≡ true → part_refused part d commands ≡ None
    → good (desk_after_all d commands) ≡ true
group_good part d [] g free = g
group_good part d (c ∷ commands) g free =
    let both = none_first part (reason_against d c) (part_refused (part + 1) (desk_after d c) commands) free in
    group_good (part + 1) (desk_after d c) commands (allowed_good d c g both.0) both.1

again_one : (d : Desk) (c : Command) → good d ≡ true → in_the_way d c ≡ None → good (desk_after d c) ≡ true
again_one d c g free = elim (cases_Bool (is_idle d c)) [
  | inl idle ↦ ap good (changes_nothing d c g idle) ∙ g
  | inr busy ↦ allowed_good d c g (sym (ap (λ b. cond b None (reason_against d c)) busy) ∙ free)
]

again_good : (part : ℕ) (d : Desk) (commands : List Command) → good d ≡ true
    → first_in_the_way part d commands ≡ None → good (desk_after_all d commands) ≡ true
again_good part d [] g free = g
again_good part d (c ∷ commands) g free =
    let both = none_first part (in_the_way d c) (first_in_the_way (part + 1) (desk_after d c) commands) free in
    again_good (part + 1) (desk_after d c) commands (again_one d c g both.0) both.1

none_of_both : {X : Type 0} (a b : Option X) → option_or a b ≡ None → (a ≡ None) × (b ≡ None)
none_of_both None b is = (refl, is)
none_of_both (Some x) b is = absurd cc

none_mapped : {X Y : Type 0} (f : X → Y) (o : Option X) → option_map f o ≡ None → o ≡ None
none_mapped f None is = refl
none_mapped f (Some x) is = absurd cc

entries_good : (d : Desk) (es : List Entry) → good d ≡ true → conflict d es ≡ None → good (fold desk_with d es) ≡ true
entries_good d [] g free = g
entries_good d (e ∷ es) g free =
    let here = option_map (in_call e.number) (first_in_the_way 0 d (commands_of e.deed)) in
    let both = none_of_both here (conflict (desk_with d e) es) free in
    entries_good (desk_with d e) es
    (again_good 0 d (commands_of e.deed) g (none_mapped (in_call e.number) (first_in_the_way 0 d (commands_of
    e.deed)) both.0))
    both.1

-- ---- the desks of a history

first_good : (start : Desk) (before es : List Entry) → AllGood start before es
    → good (desk_in_force start before) ≡ true
first_good start before [] all = all
first_good start before (e ∷ es) all = all.0

good_between : (start : Desk) (before xs ys : List Entry) → AllGood start before (xs ++ ys)
    → good (desk_in_force start (before ++ xs)) ≡ true
good_between start before [] ys all =
    ap (λ b. good (desk_in_force start b)) (append-nil before) ∙ first_good start before ys all
good_between start before (x ∷ xs) ys all =
    ap (λ b. good (desk_in_force start b)) (sym (append_assoc before (x ∷ []) xs))
    ∙ good_between start (before ++ x ∷ []) xs ys all.1

good_push : (start : Desk) (before xs ys : List Entry) (e : Entry) → AllGood start before (xs ++ ys)
    → good (desk_in_force start ((before ++ xs) ++ e ∷ [])) ≡ true → AllGood start before (xs ++ e ∷ [])
good_push start before [] ys e all last = (
  first_good start before ys all,
  ap (λ b. good (desk_in_force start (b ++ e ∷ []))) (sym (append-nil before)) ∙
      last,
)
good_push start before (x ∷ xs) ys e all last = (
  all.0,
  good_push start (before ++ x ∷ []) xs ys e all.1
      (ap (λ b. good (desk_in_force start (b ++ e ∷ []))) (append_assoc before (x ∷ []) xs) ∙ last),
)

-- the first of the entries, this many
good_first : (start : Desk) (xs ys : List Entry) (n : ℕ) (front : List Entry) → AllGood start [] (xs ++ ys)
    → front ≡ take n xs → good (desk_in_force start front) ≡ true
good_first start xs ys n front all is =
    ap (λ b. good (desk_in_force start b)) is
    ∙ good_between start [] (take n xs) (drop n xs ++ ys)
    (subst (AllGood start [])
    (ap (λ zs. zs ++ ys) (sym (take-append-drop n xs)) ∙ append_assoc (take n xs) (drop n xs) ys) all)

same_back : (done undone : List Entry)
    → front done ++ reverse (undone ++ final done) ≡ done ++ reverse undone
same_back done undone =
    ap (λ zs. front done ++ zs)
    (reverse-append undone (final done) ∙ ap (λ zs. zs ++ reverse undone) (final_turned done))
    ∙ sym (append_assoc (front done) (final done) (reverse undone))
    ∙ ap (λ zs. zs ++ reverse undone) (parted done)

same_again : (done undone : List Entry)
    → (done ++ final undone) ++ reverse (front undone) ≡ done ++ reverse undone
same_again done undone =
    append_assoc done (final undone) (reverse (front undone))
    ∙ ap (λ zs. done ++ zs)
    (ap (λ zs. zs ++ reverse (front undone)) (sym (final_turned undone))
    ∙ sym (reverse-append (front undone) (final undone))
    ∙ ap reverse (parted undone))

-- ---- what isn't refused

none_unless : (b : Bool) (why : Refusal) (o : Option Refusal) → cond b (Some why) o ≡ None → o ≡ None
none_unless true why o is = absurd cc
none_unless false why o is = is

none_before_full : (o : Option Refusal) (version : ℕ) → or_log_full o version ≡ None → o ≡ None
none_before_full None version is = refl
none_before_full (Some why) version is = absurd cc

pub good_now : (h : CallHistory) → IsSound h → good (desk_now h) ≡ true
good_now h s = good_between h.start [] h.done (reverse h.undone) s.good

with_good : (h : CallHistory) (e : Entry) → IsSound h → e.number ≡ h.accepted + 1
    → good (desk_in_force h.start (h.done ++ e ∷ [])) ≡ true → IsSound (with_entry h e)
with_good h e s number last = record {
  good =
      subst (AllGood h.start []) (sym (append-nil (h.done ++ e ∷ [])))
      (good_push h.start [] h.done (reverse h.undone) e s.good last);
  numbered = numbered_more h.accepted h.done h.undone e number s.numbered;
}

pub sound_on : (h : CallHistory) (call : Call) → IsSound h → refusal_of h call ≡ None → IsSound (after_call h call)
unfolding after_call
sound_on h (Apply command) s free =
    let e = carried_out (h.accepted + 1) (command ∷ []) in
    with_good h e s refl
    (ap good (carried_on h.start h.done (h.accepted + 1) (command ∷ []))
    ∙ allowed_good (desk_now h) command (good_now h s)
    (unopposed (desk_now h) command (none_before_full (refused (desk_now h) command) h.accepted free)))
sound_on h (Group commands) s free =
    let parts = part_refused 0 (desk_now h) commands in
    let size = option_map refusal_of_group (size_refused (length commands)) in
    let rest = cond (nat_eq h.accepted call_limit) (Some LogFull) (option_map refusal_of_group parts) in
    with_good h (carried_out (h.accepted + 1) commands) s refl
    (ap good (carried_on h.start h.done (h.accepted + 1) commands)
    ∙ group_good 0 (desk_now h) commands (good_now h s)
    (none_mapped refusal_of_group parts
    (none_unless (nat_eq h.accepted call_limit) LogFull (option_map refusal_of_group parts)
    (none_of_both size rest free).1)))
sound_on h (Undo last) s free = record {
  good = subst (AllGood h.start []) (sym (same_back h.done h.undone)) s.good;
  numbered =
      subst (AreNumbered (h.accepted + 1)) (sym (same_undone h.done h.undone))
      (numbered_still h.accepted (h.undone ++ reverse h.done) s.numbered);
}
sound_on h (Redo last) s free = record {
  good = subst (AllGood h.start []) (sym (same_again h.done h.undone)) s.good;
  numbered =
      subst (AreNumbered (h.accepted + 1)) (sym (same_redone h.done h.undone))
      (numbered_still h.accepted (h.undone ++ reverse h.done) s.numbered);
}
sound_on h (Revert number) s free =
    let base = desk_in_force h.start (kept number h.done) in
    let ways = conflict base (again number h.done) in
    let away = elsewhere h.start number h.done (moved_keys (desk_now h) (as_if h.start h.done number)) in
    let late = late_revert_refused h.start (desk_now h) h.done number in
    let rest = cond (nat_eq h.accepted call_limit) (Some LogFull) late in
    let behind = (none_of_both (early_revert_refused h.done number) rest free).1 in
    let none = none_unless (nat_eq h.accepted call_limit) LogFull late behind in
    let clear =
    (none_of_both ways away (none_unless (not (is_made number (in_force h.done))) NotInForce (option_or ways away)
    none)).0 in
    let kept_good =
    good_first h.start h.done (reverse h.undone) (length (kept number h.done)) (kept number h.done) s.good
    (kept_front h.done number) in
    with_good h (took_back (h.accepted + 1) number) s refl
    (ap good (planned h.start h.done (h.accepted + 1) number (rise_of h.accepted h.undone h.done s.numbered))
    ∙ entries_good base (again number h.done) kept_good clear)

pub sound_at_first : (start : Desk) → good start ≡ true → IsSound (no_calls start)
sound_at_first start g = record { good = g; numbered = refl }
