-- What calls leave to seats.
use Rattle.std.proofs.Common.{◌≡◌, ℕ, ◌+◌, Bool, true, false, List, [], ◌∷◌, ◌++◌, length, Option, None, Some, refl}
use Rattle.std.proofs.Common.{sym, ap, subst, ◌∙◌, length-append, inr, append-nil}
use Rattle.std.specs.Prelude.{IfSome, IfNone, MatchBool}
use mathlib.Core.List.{IsPrefix}
use Rattle.logbook.specs.Pages.{Book}
use Rattle.call_history.specs.Stamp.{StampOf}
use Rattle.desk_rows.specs.Desk.{Desk}
use Rattle.desk_edit.specs.Asked.{CallOf}
use Rattle.desk_edit.specs.Calls.{refusal_of}
use Rattle.desk_edit.specs.declared.refusal.Refusal.TheVariants.{OutOfMemory}
use Rattle.published_desk.specs.Published.{NoticeOf}
use Rattle.operator_desk.specs.declared.answer.Why.{Why}
use Rattle.operator_desk.specs.declared.answer.Why.TheVariants.{Told}
use Rattle.operator_desk.specs.Entry.{EntryOf}
use Rattle.operator_desk.specs.LegalLogs.{after_log, IsLegal}
use Rattle.operator_desk.specs.OwnCalls.{numbers}
use Rattle.operator_desk.specs.Seats.{SeatOf}
use Rattle.operator_desk.specs.Answers.{IsAccepted, IsRefused, IsWhy, Tells}
use Rattle.operator_desk.proofs.LogLemmas.{own_numbers}

-- the answer of a desk behind whose log an entry stands
pub taken : {A : Type 0} (ended : Bool) (r : Option A) (x : A) (P : A → Type 0)
    → MatchBool ended (r ≡ None) (r ≡ Some x) → P x → IfSome r P
taken true r x P is p = subst (λ o. IfSome o P) (sym is) tt
taken false r x P is p = subst (λ o. IfSome o P) (sym is) p

-- where there is an answer, the desk has not ended
pub answered : {A : Type 0} (r : Option A) (x : A) (Q : Type 0) → r ≡ Some x → IfNone r Q
answered r x Q is = subst (λ o. IfNone o Q) (sym is) tt

-- what holds anyway holds of a desk that has ended
pub anyway : {A : Type 0} (r : Option A) (Q : Type 0) → Q → IfNone r Q
anyway None Q q = q
anyway (Some x) Q q = tt

begins_itself : (xs : List EntryOf) → IsPrefix xs xs
begins_itself xs = ([], append-nil xs)

-- a seat that has seen the whole log is refused
pub refused : (start : Desk) (old new : SeatOf) (log : List EntryOf) (call : CallOf) (version : ℕ) (why : Why)
    → old.seen ≡ log → new.op ≡ old.op → new.seen ≡ old.seen → new.count ≡ old.count → version ≡ length log
    → IsLegal start log → IsWhy start log new.beyond call why → IsRefused start old new call version why
refused start old new log call version why seen op same count number legal reason =
    let now : new.seen ≡ log = same ∙ seen in
    record {
      op = op;
      at = ap length now ∙ sym number;
      legal = subst (IsLegal start) (sym now) legal;
      begins = subst (λ xs. IsPrefix old.seen xs) (sym same) (begins_itself old.seen);
      own = ap (numbers old.op) same;
      count = count;
      reason = subst (λ l. IsWhy start l new.beyond call why) (sym now) reason;
    }

-- memory runs out for a call against which nothing stands
pub wants_memory : (start : Desk) (log : List EntryOf) (beyond : Option EntryOf) (call : CallOf)
    → refusal_of (after_log start log) call ≡ None → IsWhy start log beyond call (Told OutOfMemory)
wants_memory start log beyond call free = inr (refl, free)

-- a seat that has seen the whole log makes the next call
pub accepted : (start : Desk) (publisher : Book) (old new : SeatOf) (log : List EntryOf) (call : CallOf)
    (stamp : StampOf) (n : ℕ) (notice : NoticeOf)
    → old.seen ≡ log → new.op ≡ old.op
    → new.seen ≡ log ++ record { op = old.op; call = call; stamp = stamp } ∷ [] → n ≡ length log + 1
    → IsLegal start new.seen → length (numbers old.op old.seen) ≡ old.count → new.count ≡ old.count + 1
    → Tells start publisher new.seen notice → IsAccepted start publisher old new call stamp n notice
accepted start publisher old new log call stamp n notice seen op goes number legal counted count tells =
    let entry : EntryOf = record { op = old.op; call = call; stamp = stamp } in
    let own : numbers old.op new.seen ≡ numbers old.op old.seen ++ n ∷ [] =
    ap (numbers old.op) goes
    ∙ (own_numbers old.op log entry refl
    ∙ (ap (λ k. numbers old.op log ++ k ∷ []) (sym number) ∙ ap (λ l. numbers old.op l ++ n ∷ []) (sym seen))) in
    record {
      op = op;
      at = ap length goes ∙ (length-append log (entry ∷ []) ∙ sym number);
      legal = legal;
      ends = ([], goes ∙ ap (λ l. l ++ entry ∷ []) (sym seen ∙ sym (append-nil old.seen)));
      own = own;
      count =
          ap length own ∙ (length-append (numbers old.op old.seen) (n ∷ []) ∙ (ap (λ n. n + 1) counted ∙ sym count));
      tells = tells;
    }
