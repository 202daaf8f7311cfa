-- Lemmas about edits that follow entries.
use Rattle.std.proofs.Common.{◌≡◌, ◌+◌, ℕ, zero, suc, true, List, [], ◌∷◌, ◌++◌, length, fold, take, reverse, refl, sym}
use Rattle.std.proofs.Common.{ap, subst, ◌∙◌, append_assoc, append-nil}
use Rattle.std.proofs.lemmas.List.{length-reverse, reverse-append, reverse-reverse}
use Rattle.std.proofs.lemmas.Grind.{reverse_onto}
use Rattle.undo_log.specs.Timeline.{rewound}
use Rattle.desk_rows.specs.Desk.{Desk}
use Rattle.desk_rows.specs.Edit.{EditOf}
use Rattle.desk_calls.specs.Edits.{fits, after, inverse}
use Rattle.desk_calls.specs.laws.EditLaws.{undoes, rewound_one_more}
use Rattle.desk_edit.specs.Asked.{CallOf as Call}
use Rattle.desk_edit.specs.Asked.CallOf.{Apply, Group, Undo, Redo, Revert}
use Rattle.desk_edit.specs.declared.refusal.Refusal.{Refusal}
use Rattle.desk_edit.specs.Groups.{desk_after_all}
use Rattle.desk_edit.specs.InForce.{Entry, desk_in_force, carried_out, took_back}
use Rattle.desk_edit.proofs.Forcing.{carried_on}
use Rattle.desk_edit.specs.Calls.{CallHistory, desk_now, refusal_at, refusal_of, early_refusal_at, early_refusal_of}
use Rattle.desk_edit.specs.Calls.{after_call, with_entry, with_undo, with_redo, front, final}
use Rattle.desk_calls.proofs.Ends.{front_push, final_push}
use Rattle.desk_calls.specs.Desk.{DeskOf, call_refused, early_call_refused, Does, DoesEdit, UndoesEdit}
use Rattle.desk_calls.specs.Desk.{RedoesEdit, IsReason}
use Rattle.desk_calls.specs.Following.{Follows, HasCalled, IsTold}
use Rattle.desk_calls.specs.Accepted.{after_calls, AreAccepted, AcceptsInTurn}

pub as_many : (start : Desk) (before cs : List Entry) (es : List (List EditOf)) → Follows start before cs es
    → length cs ≡ length es
as_many start before [] [] f = refl
as_many start before (c ∷ cs) (e ∷ es) f = ap suc (as_many start (before ++ c ∷ []) cs es f.2)
as_many start before [] (e ∷ es) f = absurd f
as_many start before (c ∷ cs) [] f = absurd f

pub as_many_ahead : (start : Desk) (before cs : List Entry) (es : List (List EditOf))
    → Follows start before (reverse cs) (reverse es) → length cs ≡ length es
as_many_ahead start before cs es f =
    sym (length-reverse cs) ∙ as_many start before (reverse cs) (reverse es) f ∙ length-reverse es

-- ---- one more entry, and one less

pub one_more : (start : Desk) (before all cs : List Entry) (es : List (List EditOf)) (c : Entry) (e : List EditOf)
    → all ≡ before ++ cs → Follows start before cs es → fits (desk_in_force start all) e ≡ true
    → after (desk_in_force start all) e ≡ desk_in_force start (all ++ c ∷ [])
    → Follows start before (cs ++ c ∷ []) (es ++ e ∷ [])
one_more start before all [] [] c e is f fit does =
    subst (λ b. Follows start b (c ∷ []) (e ∷ [])) (is ∙ append-nil before) (fit, does, tt)
one_more start before all (b ∷ cs) (x ∷ es) c e is f fit does = (
  f.0,
  f.1,
  one_more start (before ++ b ∷ []) all cs es c e (is ∙ sym (append_assoc before (b ∷ []) cs)) f.2 fit does,
)
one_more start before all [] (x ∷ es) c e is f fit does = absurd f
one_more start before all (b ∷ cs) [] c e is f fit does = absurd f

-- the last edit fits the desk of the entries before the last one, and leads from there to the desk of all
pub record Last (start : Desk) (before cs : List Entry) (es : List (List EditOf)) (e : List EditOf) : Type 0 where
  pub init : List Entry
  pub last : Entry
  pub is : cs ≡ init ++ last ∷ []
  pub follows : Follows start before init es
  pub fits : fits (desk_in_force start (before ++ init)) e ≡ true
  pub leads : after (desk_in_force start (before ++ init)) e ≡ desk_in_force start (before ++ cs)

pub one_less : (start : Desk) (before cs : List Entry) (es : List (List EditOf)) (e : List EditOf)
    → Follows start before cs (es ++ e ∷ []) → Last start before cs es e
one_less start before [] [] e f = absurd f
one_less start before [] (x ∷ es) e f = absurd f
one_less start before (c ∷ []) [] e f =
    record {
      init = [];
      last = c;
      is = refl;
      follows = tt;
      fits = ap (λ b. fits (desk_in_force start b) e) (append-nil before) ∙ f.0;
      leads = ap (λ b. after (desk_in_force start b) e) (append-nil before) ∙ f.1;
    }
one_less start before (c ∷ []) (x ∷ []) e f = absurd f.2
one_less start before (c ∷ []) (x ∷ y ∷ es) e f = absurd f.2
one_less start before (c ∷ b ∷ cs) [] e f = absurd f.2
one_less start before (c ∷ b ∷ cs) (x ∷ es) e f =
    let less = one_less start (before ++ c ∷ []) (b ∷ cs) es e f.2 in
    let along : before ++ (c ∷ less.init) ≡ (before ++ c ∷ []) ++ less.init =
    sym (append_assoc before (c ∷ []) less.init) in
    record {
      init = c ∷ less.init;
      last = less.last;
      is = ap (λ xs. c ∷ xs) less.is;
      follows = (f.0, f.1, less.follows);
      fits = ap (λ xs. fits (desk_in_force start xs) e) along ∙ less.fits;
      leads =
          ap (λ xs. after (desk_in_force start xs) e) along
          ∙ less.leads
          ∙ ap (λ xs. desk_in_force start xs) (append_assoc before (c ∷ []) (b ∷ cs));
    }

-- the edit that was undone last fits the desk, and leads on from there to the desk with the entry that was undone last
record Next (start : Desk) (done cs : List Entry) (es : List (List EditOf)) (e : List EditOf) : Type 0 where
  init : List Entry
  next : Entry
  is : cs ≡ init ++ next ∷ []
  fits : fits (desk_in_force start done) e ≡ true
  leads : after (desk_in_force start done) e ≡ desk_in_force start (done ++ next ∷ [])
  ahead : Follows start (done ++ next ∷ []) (reverse init) es

next_ahead : (start : Desk) (done cs : List Entry) (es : List (List EditOf)) (e : List EditOf)
    → Follows start done (reverse cs) (e ∷ es) → Next start done cs es e
next_ahead start done cs es e f = by (reverse cs) refl f
  where
    by : (rs : List Entry) → reverse cs ≡ rs → Follows start done rs (e ∷ es) → Next start done cs es e
    by [] is f = absurd f
    by (c ∷ rs) is f = record {
      init = reverse rs;
      next = c;
      is = sym (reverse-reverse cs) ∙ ap reverse is ∙ reverse-append (c ∷ []) rs;
      fits = f.0;
      leads = f.1;
      ahead = subst (λ xs. Follows start (done ++ c ∷ []) xs es) (sym (reverse-reverse rs)) f.2;
    }

-- ---- what a call does to the history

pub many_done : (d : DeskOf) (h : CallHistory) → HasCalled d h → length h.done ≡ length d.done
many_done d h called = as_many h.start [] h.done d.done called.follows

pub many_undone : (d : DeskOf) (h : CallHistory) → HasCalled d h → length h.undone ≡ length d.undone
many_undone d h called = as_many_ahead h.start h.done h.undone d.undone called.ahead

pub same_reason : (d : DeskOf) (h : CallHistory) (call : Call) → HasCalled d h → call_refused d call ≡ refusal_of h call
same_reason d h call called =
    (λ i. refusal_at (record (called.history i) { accepted = called.version i }) (called.desk i) (length d.done)
    (length d.undone) call)
    ∙ (λ i. refusal_at h (desk_now h) (sym (many_done d h called) i) (sym (many_undone d h called) i) call)

same_early : (d : DeskOf) (h : CallHistory) (call : Call) → HasCalled d h
    → early_call_refused d call ≡ early_refusal_of h call
same_early d h call called =
    (λ i. early_refusal_at (record (called.history i) { accepted = called.version i }) (called.desk i) (length
    d.done) (length d.undone) call)
    ∙ (λ i. early_refusal_at h (desk_now h) (sym (many_done d h called) i) (sym (many_undone d h called) i) call)

pub done_on : (old new : DeskOf) (h : CallHistory) (entry : Entry) → HasCalled old h → new.version ≡ h.accepted + 1
    → new.history ≡ with_entry h entry → new.desk ≡ desk_in_force h.start (h.done ++ entry ∷ []) → DoesEdit old new
    → HasCalled new (with_entry h entry)
done_on old new h entry called version history leads does =
    let e = does.0 in
    let fit : fits (desk_in_force h.start h.done) e ≡ true = ap (λ d. fits d e) (sym called.desk) ∙ does.1 in
    let to : after (desk_in_force h.start h.done) e ≡ desk_in_force h.start (h.done ++ entry ∷ []) =
    ap (λ d. after d e) (sym called.desk) ∙ sym does.2 ∙ leads in
    record {
      version = version;
      history = history;
      desk = leads;
      follows =
          subst (λ es. Follows h.start [] (h.done ++ entry ∷ []) es) (sym does.3)
          (one_more h.start [] h.done h.done old.done entry e refl called.follows fit to);
      ahead = subst (λ es. Follows h.start (h.done ++ entry ∷ []) [] (reverse es)) (sym does.4) tt;
    }

-- the last entry is undone
pub undone_on : (old new : DeskOf) (h : CallHistory) → HasCalled old h → new.version ≡ h.accepted + 1
    → new.history ≡ with_undo h
    → UndoesEdit old new → HasCalled new (with_undo h)
undone_on old new h called version history does =
    let e = does.0 in
    let back =
    one_less h.start [] h.done new.done e (subst (λ es. Follows h.start [] h.done es) does.1 called.follows) in
    let earlier = desk_in_force h.start back.init in
    let front_is : front h.done ≡ back.init = ap front back.is ∙ front_push back.init back.last in
    let undone_is : reverse (h.undone ++ final h.done) ≡ back.last ∷ reverse h.undone =
    ap (λ cs. reverse (h.undone ++ cs)) (ap final back.is ∙ final_push back.init back.last)
    ∙ reverse-append h.undone (back.last ∷ []) in
    let edits_are : reverse new.undone ≡ e ∷ reverse old.undone =
    ap reverse does.2 ∙ reverse-append old.undone (e ∷ []) in
    let ahead : Follows h.start back.init (back.last ∷ reverse h.undone) (e ∷ reverse old.undone) = (
      back.fits,
      back.leads ∙ ap (λ xs. desk_in_force h.start xs) back.is,
      subst (λ b. Follows h.start b (reverse h.undone) (reverse old.undone)) back.is called.ahead,
    ) in
    record {
      version = version;
      history = history;
      desk =
          does.4
          ∙ ap (λ d. after d (inverse e)) (called.desk ∙ sym back.leads)
          ∙ undoes earlier e back.fits
          ∙ ap (λ xs. desk_in_force h.start xs) (sym front_is);
      follows = subst (λ cs. Follows h.start [] cs new.done) (sym front_is) back.follows;
      ahead =
          subst (λ b. Follows h.start b (reverse (h.undone ++ final h.done)) (reverse new.undone)) (sym front_is)
          (subst (λ cs. Follows h.start back.init cs (reverse new.undone)) (sym undone_is)
          (subst (λ es. Follows h.start back.init (back.last ∷ reverse h.undone) es) (sym edits_are) ahead));
    }

-- the entry that was undone last is done again
pub redone_on : (old new : DeskOf) (h : CallHistory) → HasCalled old h → new.version ≡ h.accepted + 1
    → new.history ≡ with_redo h
    → RedoesEdit old new → HasCalled new (with_redo h)
redone_on old new h called version history does =
    let e = does.0 in
    let more =
    next_ahead h.start h.done h.undone (reverse new.undone) e
    (subst (λ es. Follows h.start h.done (reverse h.undone) es)
    (ap reverse does.1 ∙ reverse-append new.undone (e ∷ [])) called.ahead) in
    let done_is : h.done ++ final h.undone ≡ h.done ++ more.next ∷ [] =
    ap (λ cs. h.done ++ cs) (ap final more.is ∙ final_push more.init more.next) in
    let undone_is : front h.undone ≡ more.init = ap front more.is ∙ front_push more.init more.next in
    record {
      version = version;
      history = history;
      desk =
          does.3
          ∙ ap (λ d. after d e) called.desk
          ∙ more.leads
          ∙ ap (λ xs. desk_in_force h.start xs) (sym done_is);
      follows =
          subst (λ cs. Follows h.start [] cs new.done) (sym done_is)
          (subst (λ es. Follows h.start [] (h.done ++ more.next ∷ []) es) (sym does.2)
          (one_more h.start [] h.done h.done old.done more.next e refl called.follows more.fits more.leads));
      ahead =
          subst (λ b. Follows h.start b (reverse (front h.undone)) (reverse new.undone)) (sym done_is)
          (subst (λ cs. Follows h.start (h.done ++ more.next ∷ []) (reverse cs) (reverse new.undone)) (sym undone_is)
          more.ahead);
    }

pub called_on : (old new : DeskOf) (h : CallHistory) (call : Call) → HasCalled old h
    → new.version ≡ old.version + 1 → new.history ≡ after_call old.history call → Does old new call
    → HasCalled new (after_call h call)
unfolding after_call
called_on old new h (Apply command) called version history does =
    done_on old new h (carried_out (h.accepted + 1) (command ∷ [])) called (version ∙ ap (λ n. n + 1) called.version)
    (history ∙ ap (λ x. with_entry x (carried_out (x.accepted + 1) (command ∷ []))) called.history)
    (does.0
    ∙ ap (λ d. desk_after_all d (command ∷ [])) called.desk
    ∙ sym (carried_on h.start h.done (h.accepted + 1) (command ∷ [])))
    does.1
called_on old new h (Group commands) called version history does =
    done_on old new h (carried_out (h.accepted + 1) commands) called (version ∙ ap (λ n. n + 1) called.version)
    (history ∙ ap (λ x. with_entry x (carried_out (x.accepted + 1) commands)) called.history)
    (does.0
    ∙ ap (λ d. desk_after_all d commands) called.desk
    ∙ sym (carried_on h.start h.done (h.accepted + 1) commands))
    does.1
called_on old new h (Undo last) called version history does =
    undone_on old new h called (version ∙ ap (λ n. n + 1) called.version)
    (history ∙ ap (λ x. with_undo x) called.history) does
called_on old new h (Redo last) called version history does =
    redone_on old new h called (version ∙ ap (λ n. n + 1) called.version)
    (history ∙ ap (λ x. with_redo x) called.history) does
called_on old new h (Revert number) called version history does =
    done_on old new h (took_back (h.accepted + 1) number) called (version ∙ ap (λ n. n + 1) called.version)
    (history ∙ ap (λ x. with_entry x (took_back (x.accepted + 1) number)) called.history)
    (does.0 ∙ ap (λ x. desk_in_force x.start (x.done ++ took_back (x.accepted + 1) number ∷ [])) called.history) does.1

pub told_by : (d : DeskOf) (h : CallHistory) (call : Call) (why : Refusal) → HasCalled d h → IsReason d call why
    → IsTold h call why
told_by d h (Apply command) why called reason =
    let same = same_reason d h (Apply command) called in
    (λ other. sym same ∙ reason.0 other, λ memory. sym same ∙ reason.1 memory)
told_by d h (Group commands) why called reason =
    let same = same_reason d h (Group commands) called in
    (λ other. sym same ∙ reason.0 other, λ memory. sym (same_early d h (Group commands) called) ∙ reason.1 memory)
told_by d h (Undo last) why called reason = sym (same_reason d h (Undo last) called) ∙ reason
told_by d h (Redo last) why called reason = sym (same_reason d h (Redo last) called) ∙ reason
told_by d h (Revert number) why called reason =
    let same = same_reason d h (Revert number) called in
    (λ other. sym same ∙ reason.0 other, λ memory. sym (same_early d h (Revert number) called) ∙ reason.1 memory)

-- more or less spare capacity makes no difference
pub same_called : (old new : DeskOf) (h : CallHistory) → new ≡ record old { spare = new.spare } → HasCalled old h
    → HasCalled new h
same_called old new h same called =
    subst (λ (d : DeskOf). HasCalled d h) (sym same)
    (record {
      version = called.version;
      history = called.history;
      desk = called.desk;
      follows = called.follows;
      ahead = called.ahead;
    })

-- ---- calls in a row

pub all_accepted : (first last : DeskOf) (calls : List Call) (h : CallHistory) → HasCalled first h
    → AcceptsInTurn first calls last → AreAccepted h calls
all_accepted first last [] h called accepts = tt
all_accepted first last (call ∷ calls) h called (next, free, does, version, history, later) = (
  sym (same_reason first h call called) ∙ free,
  all_accepted next last calls (after_call h call) (called_on first next h call called version history does) later,
)

pub all_called : (first last : DeskOf) (calls : List Call) (h : CallHistory) → HasCalled first h
    → AcceptsInTurn first calls last → HasCalled last (after_calls h calls)
all_called first last [] h called same = subst (λ (d : DeskOf). HasCalled d h) (sym same) called
all_called first last (call ∷ calls) h called (next, free, does, version, history, later) =
    all_called next last calls (after_call h call) (called_on first next h call called version history does) later

-- ---- what the stored edits lead to

edits_lead : (start : Desk) (before cs : List Entry) (es : List (List EditOf)) → Follows start before cs es
    → fold after (desk_in_force start before) es ≡ desk_in_force start (before ++ cs)
edits_lead start before [] [] f = ap (λ xs. desk_in_force start xs) (sym (append-nil before))
edits_lead start before (c ∷ cs) (e ∷ es) f =
    ap (λ x. fold after x es) f.1
    ∙ edits_lead start (before ++ c ∷ []) cs es f.2
    ∙ ap (λ xs. desk_in_force start xs) (append_assoc before (c ∷ []) cs)
edits_lead start before [] (e ∷ es) f = absurd f
edits_lead start before (c ∷ cs) [] f = absurd f

-- so many of them lead to the desk of as many entries
pub first_lead : (n : ℕ) (start : Desk) (before cs : List Entry) (es : List (List EditOf)) → Follows start before cs es
    → fold after (desk_in_force start before) (take n es) ≡ desk_in_force start (before ++ take n cs)
first_lead zero start before cs es f = ap (λ xs. desk_in_force start xs) (sym (append-nil before))
first_lead (suc n) start before [] [] f = ap (λ xs. desk_in_force start xs) (sym (append-nil before))
first_lead (suc n) start before (c ∷ cs) (e ∷ es) f =
    ap (λ x. fold after x (take n es)) f.1
    ∙ first_lead n start (before ++ c ∷ []) cs es f.2
    ∙ ap (λ xs. desk_in_force start xs) (append_assoc before (c ∷ []) (take n cs))
first_lead (suc n) start before [] (e ∷ es) f = absurd f
first_lead (suc n) start before (c ∷ cs) [] f = absurd f

edits_lead_back : (start : Desk) (before cs : List Entry) (es : List (List EditOf)) → Follows start before cs es
    → rewound after inverse (desk_in_force start (before ++ cs)) (reverse es) ≡ desk_in_force start before
edits_lead_back start before [] [] f = ap (λ xs. desk_in_force start xs) (append-nil before)
edits_lead_back start before (c ∷ cs) (e ∷ es) f =
    let there = desk_in_force start ((before ++ c ∷ []) ++ cs) in
    ap (λ xs. rewound after inverse (desk_in_force start xs) (reverse (e ∷ es))) (sym (append_assoc before (c ∷ []) cs))
    ∙ ap (rewound after inverse there) (reverse_onto es e [])
    ∙ rewound_one_more there (reverse es) e
    ∙ ap (λ x. after x (inverse e)) (edits_lead_back start (before ++ c ∷ []) cs es f.2 ∙ sym f.1)
    ∙ undoes (desk_in_force start before) e f.0
edits_lead_back start before [] (e ∷ es) f = absurd f
edits_lead_back start before (c ∷ cs) [] f = absurd f

pub leads_to_desk : (d : DeskOf) (h : CallHistory) → HasCalled d h → fold after h.start d.done ≡ d.desk
leads_to_desk d h called = edits_lead h.start [] h.done d.done called.follows ∙ sym called.desk

pub leads_to_start : (d : DeskOf) (h : CallHistory) → HasCalled d h
    → rewound after inverse d.desk (reverse d.done) ≡ h.start
leads_to_start d h called =
    ap (λ rows. rewound after inverse rows (reverse d.done)) called.desk
    ∙ edits_lead_back h.start [] h.done d.done called.follows
