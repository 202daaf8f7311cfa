-- A log that goes on by one call.
use Rattle.std.proofs.Common.{◌≡◌, ◌≢◌, ℕ, suc, ◌+◌, ◌<◌, ◌≤◌, Bool, true, false, nat_eq, List, [], ◌∷◌, ◌++◌, length}
use Rattle.std.proofs.Common.{take, drop, take-append-drop, Some, None, refl, sym, ap, subst, ◌∙◌, arith, length-append}
use Rattle.std.proofs.Common.{⊎_elim}
use Rattle.std.specs.Prelude.{if◌then◌else◌, IfSome}
use Rattle.std.proofs.lemmas.List.{map-append, length-map, take-append-le, take_all}
use Rattle.std.proofs.lemmas.List.Sums.{fold_push}
use Rattle.std.proofs.lemmas.Bool.{eq-eqb, cases_lt}
use Rattle.logbook.specs.Pages.{Book}
use Rattle.desk_rows.specs.Desk.{Desk}
use Rattle.desk_rows.specs.Edit.{EditOf}
use Rattle.desk_edit.specs.Asked.{CallOf}
use Rattle.desk_edit.specs.Asked.CallOf.{Apply, Group, Undo, Redo, Revert}
use Rattle.desk_edit.specs.Calls.{CallHistory, no_calls, after_call, desk_now, refusal_of}
use Rattle.desk_calls.specs.Accepted.{after_calls, AreAccepted}
use Rattle.desk_calls.specs.Edits.{after}
use Rattle.desk_calls.specs.Following.{HasCalled}
use Rattle.published_desk.specs.Published.{after_list, after_lists, PublisherOf}
use Rattle.operator_desk.specs.Entry.{EntryOf}
use Rattle.operator_desk.specs.LegalLogs.{calls_of, after_log, IsLegal}
use Rattle.operator_desk.specs.OwnCalls.{numbers, numbers_from}
use Rattle.operator_desk.specs.Published.{AreDesks}
use Rattle.operator_desk.specs.inner.DeskInner.{InnerOf, IsInner}

calls-push : (log : List EntryOf) (e : EntryOf) → calls_of (log ++ e ∷ []) ≡ calls_of log ++ e.call ∷ []
calls-push log e = map-append (λ (x : EntryOf). x.call) log (e ∷ [])

pub after_log-push : (start : Desk) (log : List EntryOf) (e : EntryOf)
    → after_log start (log ++ e ∷ []) ≡ after_call (after_log start log) e.call
after_log-push start log e =
    ap (after_calls (no_calls start)) (calls-push log e) ∙ fold_push after_call (no_calls start) (calls_of log) e.call

accepted-push : (h : CallHistory) (calls : List CallOf) (call : CallOf) → AreAccepted h calls
    → refusal_of (after_calls h calls) call ≡ None → AreAccepted h (calls ++ call ∷ [])
accepted-push h [] call are free = (free, tt)
accepted-push h (c ∷ calls) call are free = (are.0, accepted-push (after_call h c) calls call are.1 free)

pub legal-push : (start : Desk) (log : List EntryOf) (e : EntryOf) → IsLegal start log
    → refusal_of (after_log start log) e.call ≡ None → IsLegal start (log ++ e ∷ [])
legal-push start log e legal free =
    subst (λ cs. AreAccepted (no_calls start) cs) (sym (calls-push log e))
    (accepted-push (no_calls start) (calls_of log) e.call legal free)

accepted_one : (h : CallHistory) (call : CallOf) → (after_call h call).accepted ≡ h.accepted + 1
unfolding after_call
accepted_one h (Apply command) = refl
accepted_one h (Group commands) = refl
accepted_one h (Undo last) = refl
accepted_one h (Redo last) = refl
accepted_one h (Revert number) = refl

accepted_all : (h : CallHistory) (calls : List CallOf) → (after_calls h calls).accepted ≡ h.accepted + length calls
accepted_all h [] = omega arith
accepted_all h (c ∷ calls) =
    let rest = accepted_all (after_call h c) calls in
    let one = accepted_one h c in
    omega (arith, rest, one)

-- as many calls were accepted as the log has
pub accepted-log : (start : Desk) (log : List EntryOf) → (after_log start log).accepted ≡ length log
accepted-log start log =
    omega (arith, accepted_all (no_calls start) (calls_of log), length-map log (λ (x : EntryOf). x.call))

-- an operator's call adds its number
own_from : (first op : ℕ) (log : List EntryOf) (e : EntryOf) → nat_eq e.op op ≡ true
    → numbers_from first op (log ++ e ∷ []) ≡ numbers_from first op log ++ (first + length log) ∷ []
own_from first op [] e own = ap (λ b. if b then first ∷ [] else []) own ∙ ap (λ (n : ℕ). n ∷ []) (omega arith)
own_from first op (x ∷ log) e own =
    step (nat_eq x.op op)
    (own_from (first + 1) op log e own ∙ ap (λ n. numbers_from (first + 1) op log ++ n ∷ []) (omega arith))
  where
    step : (b : Bool)
        → numbers_from (first + 1) op (log ++ e ∷ [])
        ≡ numbers_from (first + 1) op log ++ (first + length (x ∷ log)) ∷ []
        → (if b
        then first ∷ numbers_from (first + 1) op (log ++ e ∷ [])
        else numbers_from (first + 1) op (log ++ e ∷ []))
        ≡ (if b then first ∷ numbers_from (first + 1) op log else numbers_from (first + 1) op log)
        ++ (first + length (x ∷ log)) ∷ []
    step true is = ap (λ ns. first ∷ ns) is
    step false is = is

pub own_numbers : (op : ℕ) (log : List EntryOf) (e : EntryOf) → e.op ≡ op
    → numbers op (log ++ e ∷ []) ≡ numbers op log ++ (length log + 1) ∷ []
own_numbers op log e own = own_from 1 op log e (eq-eqb e.op op own) ∙ ap (λ n. numbers op log ++ n ∷ []) (omega arith)

-- a call of another operator adds no number
other_from : (first op : ℕ) (log : List EntryOf) (e : EntryOf) → nat_eq e.op op ≡ false
    → numbers_from first op (log ++ e ∷ []) ≡ numbers_from first op log
other_from first op [] e other = ap (λ b. if b then first ∷ [] else []) other
other_from first op (x ∷ log) e other =
    ap (λ ns. if nat_eq x.op op then first ∷ ns else ns) (other_from (first + 1) op log e other)

pub other_numbers : (op : ℕ) (log : List EntryOf) (e : EntryOf) → nat_eq e.op op ≡ false
    → numbers op (log ++ e ∷ []) ≡ numbers op log
other_numbers op log e other = other_from 1 op log e other

-- a log that goes on has no fewer numbers
numbers_long : (first op : ℕ) (log more : List EntryOf)
    → length (numbers_from first op log) ≤ length (numbers_from first op (log ++ more))
numbers_long first op [] more = omega arith
numbers_long first op (x ∷ log) more = step (nat_eq x.op op) (numbers_long (first + 1) op log more)
  where
    step : (b : Bool) → length (numbers_from (first + 1) op log) ≤ length (numbers_from (first + 1) op (log ++ more))
        → length (if b then first ∷ numbers_from (first + 1) op log else numbers_from (first + 1) op log)
        ≤ length
        (if b then first ∷ numbers_from (first + 1) op (log ++ more) else numbers_from (first + 1) op (log ++ more))
    step true is = omega (arith, is)
    step false is = is

-- an operator with a call behind a place has more numbers than before it
pub own_behind : (op : ℕ) (log : List EntryOf) (k : ℕ) (e : EntryOf) → take (suc k) log ≡ take k log ++ e ∷ []
    → nat_eq e.op op ≡ true → numbers op log ≢ numbers op (take k log)
own_behind op log k e next own same =
    let before : List ℕ = numbers op (take k log) in
    let more = ap (λ (l : List EntryOf). length (numbers op l)) next in
    let one = ap length (own_from 1 op (take k log) e own) in
    let longer = length-append before ((1 + length (take k log)) ∷ []) in
    let long = numbers_long 1 op (take (suc k) log) (drop (suc k) log) in
    let whole = ap (λ (l : List EntryOf). length (numbers op l)) (take-append-drop (suc k) log) in
    omega (arith, ap length same, more, one, longer, long, whole)

-- all published lists lead to the desk of the log
pub desks-all : (start : Desk) (log : List EntryOf) (lists : List (List EditOf)) → AreDesks start log lists
    → after_lists start lists ≡ desk_now (after_log start log)
desks-all start log lists desks =
    let many = desks.many in
    ap (after_lists start) (sym (take_all (length log) lists (omega arith)))
    ∙ (desks.lead (length log) (omega arith)
    ∙ ap (λ l. desk_now (after_log start l)) (take_all (length log) log (omega arith)))

-- the published lists of a log that goes on
pub desks-push : (start : Desk) (log : List EntryOf) (lists : List (List EditOf)) (entry : EntryOf)
    (edits : List EditOf)
    → AreDesks start log lists
    → after_list (desk_now (after_log start log)) edits ≡ desk_now (after_log start (log ++ entry ∷ []))
    → AreDesks start (log ++ entry ∷ []) (lists ++ edits ∷ [])
desks-push start log lists entry edits desks leads = record {
  many = length-append lists (edits ∷ []) ∙ (ap (λ n. n + 1) desks.many ∙ sym (length-append log (entry ∷ [])));
  lead = λ n few. ⊎_elim (past n few) (here n) (cases_lt (length log) n);
} where
  here : (n : ℕ) → n ≤ length log
      → after_lists start (take n (lists ++ edits ∷ [])) ≡ desk_now (after_log start (take n (log ++ entry ∷ [])))
  here n few =
      let many = desks.many in
      ap (after_lists start) (take-append-le n lists (edits ∷ []) (omega arith))
      ∙ (desks.lead n few ∙ ap (λ l. desk_now (after_log start l)) (sym (take-append-le n log (entry ∷ []) few)))

  past : (n : ℕ) → n ≤ length (log ++ entry ∷ []) → length log < n
      → after_lists start (take n (lists ++ edits ∷ [])) ≡ desk_now (after_log start (take n (log ++ entry ∷ [])))
  past n few behind =
      let many = desks.many in
      let longer = length-append log (entry ∷ []) in
      let lists_longer = length-append lists (edits ∷ []) in
      ap (after_lists start) (take_all n (lists ++ edits ∷ []) (omega arith))
      ∙ (fold_push after_list start lists edits
      ∙ (ap (λ d. after_list d edits) (desks-all start log lists desks)
      ∙ (leads ∙ ap (λ l. desk_now (after_log start l)) (sym (take_all n (log ++ entry ∷ []) (omega arith))))))

-- the desk under the lock after one more call, whose edits were staged and published
pub held-push : (start : Desk) (publisher : Book) (h new : InnerOf) (staged : PublisherOf) (entry : EntryOf)
    (edits : List EditOf)
    → IsInner start publisher h → refusal_of (after_log start h.log) entry.call ≡ None
    → HasCalled new.desk (after_call (after_log start h.log) entry.call) → after h.desk.desk edits ≡ new.desk.desk
    → staged ≡ record h.edition { staged = Some edits }
    → IfSome staged.staged (λ es. new.edition.lists ≡ staged.lists ++ es ∷ [])
    → (new.edition.publisher ≡ staged.publisher) × (new.edition.start ≡ staged.start) → new.edition.staged ≡ None
    → new.log ≡ h.log ++ entry ∷ [] → new.total ≡ h.total + 1
    → IsInner start publisher new
held-push start publisher h new staged entry edits held free called leads is published same none log total =
    let next = after_log-push start h.log entry in
    let called' : HasCalled new.desk (after_log start (h.log ++ entry ∷ [])) =
    subst (λ (x : CallHistory). HasCalled new.desk x) (sym next) called in
    let now : after_list (desk_now (after_log start h.log)) edits ≡ desk_now (after_log start (h.log ++ entry ∷ [])) =
    ap (λ d. after_list d edits) (sym held.called.desk) ∙ (leads ∙ called'.desk) in
    let lists : new.edition.lists ≡ h.edition.lists ++ edits ∷ [] =
    subst (λ (p : PublisherOf). IfSome p.staged (λ es. new.edition.lists ≡ p.lists ++ es ∷ [])) is published in
    let desks =
    subst (λ ls. AreDesks start (h.log ++ entry ∷ []) ls) (sym lists)
    (desks-push start h.log h.edition.lists entry edits held.desks now) in
    record {
      legal = subst (IsLegal start) (sym log) (legal-push start h.log entry held.legal free);
      called = subst (λ l. HasCalled new.desk (after_log start l)) (sym log) called';
      named = same.0 ∙ (ap (λ (p : PublisherOf). p.publisher) is ∙ held.named);
      first = same.1 ∙ (ap (λ (p : PublisherOf). p.start) is ∙ held.first);
      desks = subst (λ l. AreDesks start l new.edition.lists) (sym log) desks;
      staged = λ beyond. none;
      counted = ap length log ∙ (length-append h.log (entry ∷ []) ∙ (ap (λ n. n + 1) held.counted ∙ sym total));
    }
