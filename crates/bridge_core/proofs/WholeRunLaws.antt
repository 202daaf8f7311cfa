-- Whole runs of cores.
use Rattle.std.proofs.Common.{◌≡◌, ℕ, true, List, [], ◌∷◌, ◌++◌, length, reverse, sym, ap, subst, ◌∙◌}
use Rattle.std.specs.Prelude.{slice_get}
use Rattle.desk_rows.specs.Desk.{Desk, good}
use Rattle.desk_rows.specs.Edit.{EditOf}
use Rattle.desk_edit.specs.Calls.{CallHistory, desk_now, after_call}
use Rattle.sender_feedback.specs.Upstream.{Asker}
use Rattle.bridge_core.specs.Sent.{Sent}
use Rattle.bridge_core.specs.LaneState.{LaneOf}
use Rattle.bridge_core.specs.Steps.{Step, along, sent_at, desk_of, CoreOf, HasTaken}
use Rattle.desk_calls.specs.Following.{Follows}
use Rattle.desk_calls.specs.Accepted.{after_calls, AreAccepted}
use Rattle.bridge_core.specs.Following.{HasCalled}
use Rattle.bridge_core.specs.Headline.{AreGood}
use Rattle.bridge_core.specs.Events.{Event, Listens, Plays, steps_of, calls_among}

-- an item leaves the calls
called_still : (old new : CoreOf) (h : CallHistory) → new.version ≡ old.version → new.history ≡ old.history
    → new.desk ≡ old.desk → new.done ≡ old.done → new.undone ≡ old.undone → HasCalled old h → HasCalled new h
called_still old new h version history desk done undone called = record {
  version = version ∙ called.version;
  history = history ∙ called.history;
  desk = desk ∙ called.desk;
  follows = subst (Follows h.start [] h.done) (sym done) called.follows;
  ahead =
      subst (λ (es : List (List EditOf)). Follows h.start h.done (reverse h.undone) (reverse es)) (sym undone)
      called.ahead;
}

-- what the receive side does leaves the calls
still_called : (old new : CoreOf) (h : CallHistory) → Listens old new → HasCalled old h → HasCalled new h
still_called old new h listens called =
    called_still old new h listens.version listens.history listens.desk listens.done listens.undone called

-- and the steps
still_taken : (old new : CoreOf) (start : Desk) (steps : List Step) → Listens old new → HasTaken old start steps
    → HasTaken new start steps
still_taken old new start steps listens taken = record {
  version = listens.version ∙ taken.version;
  desk = listens.desk ∙ taken.desk;
  lanes = λ lane state at.
      taken.lanes lane state (ap (λ (states : List LaneOf). slice_get states lane) (sym listens.lanes) ∙ at);
}

-- and what is sent from here on
sent_still : (old new : CoreOf) (start : Desk) (before steps : List Step) → Listens old new
    → along (sent_at new.ingress.asker (length new.lanes) start) before steps
    ≡ along (sent_at old.ingress.asker (length old.lanes) start) before steps
sent_still old new start before steps listens =
    ap (λ (lanes : ℕ). along (sent_at new.ingress.asker lanes start) before steps) (ap length listens.lanes)
    ∙ ap (λ (who : Asker). along (sent_at who (length old.lanes) start) before steps) listens.who

-- what is sent, and that all desks are good
pub played : (start : Desk) (before : List Step) (h : CallHistory) (events : List Event) (sent : List (List Sent))
    (first last : CoreOf)
    → HasTaken first start before → HasCalled first h → Plays first events sent last
    → (sent ≡ along (sent_at first.ingress.asker (length first.lanes) start) before (steps_of h events))
    × AreGood (steps_of h events)
played start before h [] sent first last taken called plays = (plays.0, tt)
played start before h (Event.called call ∷ events) sent first last taken called (ready, next, listens, accepts, plays) =
    let after = accepts.answered h (still_called first ready h listens called) in
    let desk : next.desk ≡ desk_now (after_call h call) = after.2.desk in
    let step = accepts.takes start before (still_taken first ready start before listens taken) in
    let rest =
    played start (before ++ Step.publish next.desk ∷ []) (after_call h call) events sent next last step.1 after.2
    plays in (
      rest.0
          ∙ ap
          (λ (lanes : ℕ).
          along (sent_at next.ingress.asker lanes start) (before ++ Step.publish next.desk ∷ [])
          (steps_of (after_call h call) events))
          (ap length accepts.lanes)
          ∙ ap
          (λ (who : Asker).
          along (sent_at who (length ready.lanes) start) (before ++ Step.publish next.desk ∷ [])
          (steps_of (after_call h call) events))
          accepts.who
          ∙ ap
          (λ (d : Desk).
          along (sent_at ready.ingress.asker (length ready.lanes) start) (before ++ Step.publish d ∷ [])
          (steps_of (after_call h call) events))
          desk
          ∙ sent_still first ready start before (steps_of h (Event.called call ∷ events)) listens,
      (ap good (sym desk) ∙ accepts.good, rest.1),
    )
played start before h (Event.item lane input ∷ events) sent first last taken called
    (ready, next, now, later, is, listens, sends, plays) =
    let step = sends.takes start before (still_taken first ready start before listens taken) in
    let rest =
    played start (before ++ Step.item lane input ∷ []) h events later next last step.1
    (called_still ready next h sends.version sends.history sends.desk sends.done sends.undone
    (still_called first ready h listens called))
    plays in (
      is ∙ ap (λ (es : List (List Sent)). es ++ later) step.0
          ∙ ap (λ (es : List (List Sent)).
          sent_at ready.ingress.asker (length ready.lanes) start before (Step.item lane input) ++ es)
          (rest.0
          ∙ ap
          (λ (lanes : ℕ).
          along (sent_at next.ingress.asker lanes start) (before ++ Step.item lane input ∷ []) (steps_of h events))
          sends.lanes
          ∙ ap
          (λ (who : Asker).
          along (sent_at who (length ready.lanes) start) (before ++ Step.item lane input ∷ []) (steps_of h events))
          sends.who)
          ∙ sent_still first ready start before (steps_of h (Event.item lane input ∷ events)) listens,
      (tt, rest.1),
    )

-- the calls among what a core takes are accepted one after another, and its desk goes where they lead
pub calls_legal : (first last : CoreOf) (h : CallHistory) (events : List Event) (sent : List (List Sent))
    → HasCalled first h → Plays first events sent last
    → AreAccepted h (calls_among events) × HasCalled last (after_calls h (calls_among events))
calls_legal first last h [] sent called plays = (tt, still_called first last h plays.1 called)
calls_legal first last h (Event.called call ∷ events) sent called (ready, next, listens, accepts, plays) =
    let after = accepts.answered h (still_called first ready h listens called) in
    let rest = calls_legal next last (after_call h call) events sent after.2 plays in
    ((after.0, rest.0), rest.1)
calls_legal first last h (Event.item lane input ∷ events) sent called
    (ready, next, now, later, is, listens, sends, plays) =
    calls_legal next last h events later
    (called_still ready next h sends.version sends.history sends.desk sends.done sends.undone
    (still_called first ready h listens called))
    plays

-- the steps before one are good
pub good_before : (before after : List Step) → AreGood (before ++ after) → AreGood before
good_before [] after all = tt
good_before (step ∷ before) after all = (all.0, good_before before after all.1)

pub good_desk : (start : Desk) (before : List Step) → good start ≡ true → AreGood before
    → good (desk_of start before) ≡ true
good_desk start [] h all = h
good_desk start (Step.publish next ∷ before) h all = good_desk next before all.0 all.1
good_desk start (Step.item lane input ∷ before) h all = good_desk start before h all.1
