-- What a call does to a core follows from what its two halves do to the core's desk.
use Rattle.std.proofs.Common.{◌≡◌, ℕ, ◌+◌, List, None, refl, ap, subst, ◌∙◌}
use Rattle.desk_edit.specs.Asked.{CallOf as Call}
use Rattle.desk_edit.specs.Asked.CallOf.{Apply, Group, Undo, Redo, Revert}
use Rattle.desk_edit.specs.declared.refusal.Refusal.{Refusal}
use Rattle.desk_edit.specs.Calls.{CallHistory, refusal_of, after_call}
use Rattle.desk_calls.specs.Desk.{DeskOf, call_refused, Does, IsReason, IsReady}
use Rattle.desk_calls.specs.Following.{HasCalled as DeskHasCalled, IsTold}
use Rattle.desk_calls.specs.declared.prepared.Prepared.{Prepared}
use Rattle.ingress.specs.inner.Holding.{IngressOf}
use Rattle.desk_calls.specs.declared.reply.Reply.TheVariants.{Accepted, Refused}
use Rattle.bridge_core.specs.LaneState.{LaneOf}
use Rattle.bridge_core.specs.Steps.{CoreOf}
use Rattle.bridge_core.specs.Calls.{Answers}
use Rattle.bridge_core.specs.Following.{HasCalled, IsAnswered}

-- a core with this desk
abbrev pub core_with : DeskOf → List LaneOf → IngressOf → CoreOf
core_with d lanes ingress =
    record {
      version = d.version;
      history = d.history;
      desk = d.desk;
      done = d.done;
      undone = d.undone;
      lanes = lanes;
      ingress = ingress;
    }

-- ---- how much memory a desk has makes no difference

does_same : (old new : DeskOf) (call : Call) → Does old new call
    → Does (record old { spare = 0 }) (record new { spare = 0 }) call
does_same old new (Apply command) does = does
does_same old new (Group commands) does = does
does_same old new (Undo last) does = does
does_same old new (Redo last) does = does
does_same old new (Revert number) does = does

reason_same : (d : DeskOf) (call : Call) (why : Refusal) → IsReason d call why
    → IsReason (record d { spare = 0 }) call why
reason_same d (Apply command) why reason = reason
reason_same d (Group commands) why reason = reason
reason_same d (Undo last) why reason = reason
reason_same d (Redo last) why reason = reason
reason_same d (Revert number) why reason = reason

called_core : (d : DeskOf) (lanes : List LaneOf) (ingress : IngressOf) (h : CallHistory) → DeskHasCalled d h
    → HasCalled (core_with d lanes ingress) h
called_core d lanes ingress h called =
    record {
      version = called.version;
      history = called.history;
      desk = called.desk;
      follows = called.follows;
      ahead = called.ahead;
    }

called_desk : (d : DeskOf) (lanes : List LaneOf) (ingress : IngressOf) (h : CallHistory)
    → HasCalled (core_with d lanes ingress) h → DeskHasCalled d h
called_desk d lanes ingress h called =
    record {
      version = called.version;
      history = called.history;
      desk = called.desk;
      follows = called.follows;
      ahead = called.ahead;
    }

-- ---- an accepted call

pub accepted_answer : {A : Type 0} (was ready is : DeskOf) (lanes : List LaneOf) (ingress : IngressOf) (call : Call)
    (prepared : Prepared A) (number : ℕ)
    → ready ≡ record was { spare = ready.spare } → IsReady ready call prepared → Does ready is call
    → (number ≡ ready.version + 1) × (is.version ≡ number) → is.history ≡ after_call ready.history call
    → Answers (core_with was lanes ingress) (core_with is lanes ingress) call (Accepted number)
accepted_answer was ready is lanes ingress call prepared number same free does version turns = (
  version.0 ∙ ap (λ (d : DeskOf). d.version + 1) same,
  version.1,
  refl,
  subst (λ (d : DeskOf). call_refused d call ≡ None) same free.0,
  subst (λ (d : DeskOf). Does (record d { spare = 0 }) (record is { spare = 0 }) call) same
      (does_same ready is call does),
  turns ∙ ap (λ (d : DeskOf). after_call d.history call) same,
)

pub accepted_history : (was ready is : DeskOf) (lanes : List LaneOf) (ingress : IngressOf) (call : Call) (number : ℕ)
    → ((h : CallHistory) → DeskHasCalled was h → refusal_of h call ≡ None)
    → ((h : CallHistory) → DeskHasCalled was h → DeskHasCalled ready h)
    → ((h : CallHistory) → DeskHasCalled ready h → DeskHasCalled is (after_call h call)) → number ≡ ready.version + 1
    → (h : CallHistory) → HasCalled (core_with was lanes ingress) h
    → IsAnswered h (core_with is lanes ingress) call (Accepted number)
accepted_history was ready is lanes ingress call number free prepares commits next h called =
    let before = called_desk was lanes ingress h called in
    let between = prepares h before in (
      free h before,
      next ∙ ap (λ n. n + 1) between.version,
      called_core is lanes ingress (after_call h call) (commits h between),
    )

-- ---- a refused call

pub refused_answer : (was ready : DeskOf) (lanes : List LaneOf) (ingress : IngressOf) (call : Call) (at : ℕ)
    (why : Refusal)
    → ready ≡ record was { spare = ready.spare } → at ≡ ready.version → IsReason was call why
    → Answers (core_with was lanes ingress) (core_with ready lanes ingress) call (Refused at why)
refused_answer was ready lanes ingress call at why same now reason = (
  now ∙ ap (λ (d : DeskOf). d.version) same,
  ap (λ (d : DeskOf). core_with d lanes ingress) same,
  reason_same was call why reason,
)

pub refused_history : (was ready : DeskOf) (lanes : List LaneOf) (ingress : IngressOf) (call : Call) (at : ℕ)
    (why : Refusal)
    → ((h : CallHistory) → DeskHasCalled was h → IsTold h call why)
    → ((h : CallHistory) → DeskHasCalled was h → DeskHasCalled ready h)
    → at ≡ ready.version → (h : CallHistory) → HasCalled (core_with was lanes ingress) h
    → IsAnswered h (core_with ready lanes ingress) call (Refused at why)
refused_history was ready lanes ingress call at why told prepares now h called =
    let before = called_desk was lanes ingress h called in
    let after = prepares h before in
    (now ∙ after.version, told h before, called_core ready lanes ingress h after)
