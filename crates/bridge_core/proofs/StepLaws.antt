-- One more step.
use Rattle.std.proofs.Common.{◌≡◌, ℕ, ◌+◌, true, false, cond, nat_eq, nat_lt, ◌≤◌, List, [], ◌∷◌, ◌++◌, length, set}
use Rattle.std.proofs.Common.{None, Some, refl, sym, ap, subst, ◌∙◌, arith, append-nil, append_assoc, inl, inr, ◌⊎◌}
use Rattle.std.proofs.Common.{◌≢◌, zero, suc, eq-eqb, length-set}
use Rattle.std.specs.Prelude.{slice_get}
use Rattle.std.proofs.lemmas.Bool.Decides.{nat_tests}
use Rattle.std.proofs.lemmas.List.{length_push}
use Rattle.desk_rows.specs.Desk.{Desk}
use Rattle.mixer.specs.Mixers.{WasGiven}
use Rattle.media_items.specs.Inputs.{Input}
use Rattle.sender_feedback.specs.Upstream.{Asker}
use Rattle.bridge_core.specs.Sent.{Sent}
use Rattle.bridge_core.specs.Lanes.{Visit, given_of, sends_at}
use Rattle.bridge_core.specs.LaneState.{LaneOf, visit_of, AreLeft, HasHandled, Handles}
use Rattle.bridge_core.specs.Sound.{HavePlaces, AreFresh}
use Rattle.bridge_core.specs.Calls.{core_fault, most_lanes}
use Rattle.ingress.specs.Names.{is_name}
use Rattle.bridge_core.specs.Steps.{Step, version_of, desk_of, items_given, along, visit_at, visits, visit_after}
use Rattle.bridge_core.specs.Steps.{CoreOf, Takes}

pub version_of-publish : (steps : List Step) (desk : Desk)
    → version_of (steps ++ Step.publish desk ∷ []) ≡ version_of steps + 1
version_of-publish [] desk = refl
version_of-publish (Step.publish next ∷ steps) desk = omega (arith, version_of-publish steps desk)
version_of-publish (Step.item to input ∷ steps) desk = version_of-publish steps desk

pub version_of-item : (steps : List Step) (lane : ℕ) (input : Input)
    → version_of (steps ++ Step.item lane input ∷ []) ≡ version_of steps
version_of-item [] lane input = refl
version_of-item (Step.publish next ∷ steps) lane input = ap (λ n. 1 + n) (version_of-item steps lane input)
version_of-item (Step.item to other ∷ steps) lane input = version_of-item steps lane input

pub desk_of-publish : (start : Desk) (steps : List Step) (desk : Desk)
    → desk_of start (steps ++ Step.publish desk ∷ []) ≡ desk
desk_of-publish start [] desk = refl
desk_of-publish start (Step.publish next ∷ steps) desk = desk_of-publish next steps desk
desk_of-publish start (Step.item to input ∷ steps) desk = desk_of-publish start steps desk

pub desk_of-item : (start : Desk) (steps : List Step) (lane : ℕ) (input : Input)
    → desk_of start (steps ++ Step.item lane input ∷ []) ≡ desk_of start steps
desk_of-item start [] lane input = refl
desk_of-item start (Step.publish next ∷ steps) lane input = desk_of-item next steps lane input
desk_of-item start (Step.item to other ∷ steps) lane input = desk_of-item start steps lane input

pub along-append : {X : Type 0} (at : List Step → Step → List X) (before steps : List Step) (step : Step)
    → along at before (steps ++ step ∷ []) ≡ along at before steps ++ at (before ++ steps) step
along-append at before [] step = append-nil (at before step) ∙ ap (λ b. at b step) (sym (append-nil before))
along-append at before (s ∷ steps) step =
    ap (λ xs. at before s ++ xs) (along-append at (before ++ s ∷ []) steps step
    ∙ ap (λ b. along at (before ++ s ∷ []) steps ++ at b step) (append_assoc before (s ∷ []) steps))
    ∙ sym (append_assoc (at before s) (along at (before ++ s ∷ []) steps) (at (before ++ s ∷ steps) step))

length-visits : (lane : ℕ) (start : Desk) (before steps : List Step)
    → length (along (visit_at lane start) before steps) ≡ items_given lane steps
length-visits lane start before [] = refl
length-visits lane start before (Step.publish next ∷ steps) =
    length-visits lane start (before ++ Step.publish next ∷ []) steps
length-visits lane start before (Step.item to input ∷ steps) =
    let rest = length-visits lane start (before ++ Step.item to input ∷ []) steps in
    elim (nat_eq to lane) as (λ b.
    length (cond b (visit_after start before lane input ∷ []) []
    ++ along (visit_at lane start) (before ++ Step.item to input ∷ []) steps)
    ≡ cond b (1 + items_given lane steps) (items_given lane steps))
    [ true ↦ omega (arith, rest) | false ↦ rest ]

pub visits-publish : (lane : ℕ) (start : Desk) (before : List Step) (desk : Desk)
    → visits lane start (before ++ Step.publish desk ∷ []) ≡ visits lane start before
visits-publish lane start before desk =
    along-append (visit_at lane start) [] before (Step.publish desk) ∙ append-nil (visits lane start before)

pub visits-mine : (lane : ℕ) (start : Desk) (before : List Step) (input : Input)
    → visits lane start (before ++ Step.item lane input ∷ [])
    ≡ visits lane start before ++ visit_after start before lane input ∷ []
visits-mine lane start before input =
    along-append (visit_at lane start) [] before (Step.item lane input)
    ∙ ap (λ b. visits lane start before ++ cond b (visit_after start before lane input ∷ []) []) (eq-eqb lane lane refl)

pub visits-other : (lane to : ℕ) (start : Desk) (before : List Step) (input : Input) → to ≢ lane
    → visits lane start (before ++ Step.item to input ∷ []) ≡ visits lane start before
visits-other lane to start before input other =
    let not : nat_eq to lane ≡ false = grind (arith, nat_tests) in
    along-append (visit_at lane start) [] before (Step.item to input)
    ∙ ap (λ b. visits lane start before ++ cond b (visit_after start before lane input ∷ []) []) not
    ∙ append-nil (visits lane start before)

-- an accepted call
pub published : (old new : CoreOf) → new.version ≡ old.version + 1 → new.lanes ≡ old.lanes
    → Takes old new (Step.publish new.desk) []
published old new version lanes start before taken = (
  refl,
  record {
    version = version ∙ ap (λ n. n + 1) taken.version ∙ sym (version_of-publish before new.desk);
    desk = sym (desk_of-publish start before new.desk);
    lanes = λ lane state at.
        subst (HasHandled state) (sym (visits-publish lane start before new.desk))
        (taken.lanes lane state (ap (λ xs. slice_get xs lane) (sym lanes) ∙ at));
  },
)

slice_get-set : (xs : List LaneOf) (i j : ℕ) (x y : LaneOf) → slice_get (set xs i x) j ≡ Some y
    → ((i ≡ j) × (x ≡ y)) ⊎ ((i ≢ j) × (slice_get xs j ≡ Some y))
slice_get-set [] i j x y e = absurd (cc)
slice_get-set (z ∷ xs) zero zero x y e = inl (refl, (cc))
slice_get-set (z ∷ xs) zero (suc j) x y e = inr ((λ h. absurd (omega arith)), e)
slice_get-set (z ∷ xs) (suc i) zero x y e = inr ((λ h. absurd (omega arith)), e)
slice_get-set (z ∷ xs) (suc i) (suc j) x y e =
    elim (slice_get-set xs i j x y e) [ inl p ↦ inl (ap suc p.0, p.1) | inr p ↦ inr ((λ h. p.0 (omega arith)), p.1) ]

-- Whatever items have left the old lane's parts, this is what it sends for one more, which leaves the new one's.
abbrev pub LaneAnswers : LaneOf → LaneOf → Visit → List Sent → Type 0
LaneAnswers old new visit sent =
    (before : List Visit)
    → AreLeft old.lane old.lanes old.video before × WasGiven old.lane old.lanes old.audio (given_of before) →
    (sent ≡ sends_at old.who old.lane old.lanes before visit)
    × (AreLeft old.lane old.lanes new.video (before ++ visit ∷ [])
    × WasGiven old.lane old.lanes new.audio (given_of (before ++ visit ∷ [])))

-- what the parts of a lane answer, a lane handles
pub handles : (old new : LaneOf) (version : ℕ) (desk : Desk) (input : Input) (sent : List Sent)
    → LaneAnswers old new (visit_of version (old.handled + 1) desk input) sent
    → new.lane ≡ old.lane → new.lanes ≡ old.lanes → new.handled ≡ old.handled + 1
    → Handles old new version desk input sent
handles old new version desk input sent does lane lanes handled before stands =
    let v = visit_of version (length before + 1) desk input in
    let same : visit_of version (old.handled + 1) desk input ≡ v =
    ap (λ n. visit_of version (n + 1) desk input) stands.handled in
    let done = subst (λ (w : Visit). LaneAnswers old new w sent) same does before (stands.video, stands.audio) in (
      done.0,
      record {
        handled = omega (arith, length_push before v, handled, stands.handled);
        video =
            subst (λ l. AreLeft l new.lanes new.video (before ++ v ∷ [])) (sym lane)
            (subst (λ l. AreLeft old.lane l new.video (before ++ v ∷ [])) (sym lanes) done.1.0);
        audio =
            subst (λ l. WasGiven l new.lanes new.audio (given_of (before ++ v ∷ []))) (sym lane)
            (subst (λ l. WasGiven old.lane l new.audio (given_of (before ++ v ∷ []))) (sym lanes) done.1.1);
      },
    )

-- an item that a lane handles
pub handled : (old new : CoreOf) (lane : ℕ) (state after : LaneOf) (input : Input) (sent : List Sent)
    → HavePlaces old.lanes old.ingress.asker → slice_get old.lanes lane ≡ Some state
    → Handles state after old.version old.desk input sent
    → new.version ≡ old.version → new.desk ≡ old.desk → new.lanes ≡ set old.lanes lane after
    → Takes old new (Step.item lane input) (sent ∷ [])
handled old new lane state after input sent sound at does version desk lanes start before taken =
    let place = sound lane state at in
    let vs = visits lane start before in
    let done = does vs (taken.lanes lane state at) in
    let v = visit_after start before lane input in
    let same : visit_of old.version (length vs + 1) old.desk input ≡ v =
    ap (λ n. visit_of n (length vs + 1) old.desk input) taken.version
    ∙ ap (λ n. visit_of (version_of before) (n + 1) old.desk input) (length-visits lane start [] before)
    ∙ ap (λ d. visit_of (version_of before) (items_given lane before + 1) d input) taken.desk in (
      ap (λ s. s ∷ []) (done.0
          ∙ ap (λ l. sends_at state.who l state.lanes vs (visit_of old.version (length vs + 1) old.desk input)) place.0
          ∙ ap (λ l. sends_at state.who lane l vs (visit_of old.version (length vs + 1) old.desk input)) place.1
          ∙ ap (λ who. sends_at who lane (length old.lanes) vs (visit_of old.version (length vs + 1) old.desk input))
          place.2
          ∙ ap (sends_at old.ingress.asker lane (length old.lanes) vs) same),
      record {
        version = version ∙ taken.version ∙ sym (version_of-item before lane input);
        desk = desk ∙ taken.desk ∙ sym (desk_of-item start before lane input);
        lanes = λ i s there.
            elim (slice_get-set old.lanes lane i after s (ap (λ xs. slice_get xs i) (sym lanes) ∙ there)) [
              | inl p ↦ subst (λ j. HasHandled s (visits j start (before ++ Step.item lane input ∷ []))) p.0
                  (subst (λ t. HasHandled t (visits lane start (before ++ Step.item lane input ∷ []))) p.1
                  (subst (HasHandled after) (ap (λ w. vs ++ w ∷ []) same ∙ sym (visits-mine lane start before input))
                  done.1))
              | inr p ↦ subst (HasHandled s) (sym (visits-other i lane start before input p.0)) (taken.lanes i s p.1)
            ];
      },
    )

-- a lane keeps its place
pub still_placed : (who : Asker) (old new : List LaneOf) (lane : ℕ) (state after : LaneOf) → HavePlaces old who
    → slice_get old lane ≡ Some state
    → after.lane ≡ state.lane → after.lanes ≡ state.lanes → after.who ≡ state.who → new ≡ set old lane after
    → HavePlaces new who
still_placed who old new lane state after placed at place places name lanes i s there =
    let size : length new ≡ length old = ap length lanes ∙ length-set old lane after in
    elim (slice_get-set old lane i after s (ap (λ xs. slice_get xs i) (sym lanes) ∙ there)) [
      | inl p ↦
          (let was = placed lane state at in (
            ap (λ (t : LaneOf). t.lane) (sym p.1) ∙ place ∙ was.0 ∙ p.0,
            ap (λ (t : LaneOf). t.lanes) (sym p.1) ∙ places ∙ was.1 ∙ sym size,
            ap (λ (t : LaneOf). t.who) (sym p.1) ∙ name ∙ was.2,
          ))
      | inr p ↦ (let was = placed i s p.1 in (was.0, was.1 ∙ sym size, was.2))
    ]

slice_get-push : (xs : List LaneOf) (x y : LaneOf) (j : ℕ) → slice_get (xs ++ x ∷ []) j ≡ Some y
    → ((j ≡ length xs) × (x ≡ y)) ⊎ (slice_get xs j ≡ Some y)
slice_get-push [] x y zero e = inl (refl, (cc))
slice_get-push [] x y (suc j) e = absurd (cc)
slice_get-push (z ∷ xs) x y zero e = inr e
slice_get-push (z ∷ xs) x y (suc j) e =
    elim (slice_get-push xs x y j e) [ inl p ↦ inl (ap suc p.0, p.1) | inr p ↦ inr p ]

-- one more lane
pub AreFresh-push : (lanes : ℕ) (who : Asker) (states : List LaneOf) (state : LaneOf) → AreFresh lanes who states
    → state.lane ≡ length states → state.lanes ≡ lanes → state.who ≡ who → HasHandled state []
    → AreFresh lanes who (states ++ state ∷ [])
AreFresh-push lanes who states state fresh place places name nothing lane s at =
    elim (slice_get-push states state s lane at) [
      | inl p ↦
          subst (λ (t : LaneOf). (t.lane ≡ lane) × (t.lanes ≡ lanes) × (t.who ≡ who) × HasHandled t []) p.1
          (place ∙ sym p.0, places, name, nothing)
      | inr there ↦ fresh lane s there
    ]

-- fresh lanes have their places
pub placed_at_first : (lanes : ℕ) (who : Asker) (states : List LaneOf) → AreFresh lanes who states
    → length states ≡ lanes → HavePlaces states who
placed_at_first lanes who states fresh count lane state at = let f = fresh lane state at in (f.0, f.1 ∙ sym count, f.2)

-- lanes that are neither none nor too many, and a name
pub no_fault : (lanes : ℕ) (cname : List ℕ) → lanes ≢ 0 → lanes ≤ most_lanes → is_name cname ≡ true
    → core_fault lanes cname ≡ None
no_fault lanes cname some few named =
    let first : nat_eq lanes 0 ≡ false = grind (arith, nat_tests) in
    let second : nat_lt most_lanes lanes ≡ false = grind (arith, nat_tests) in
    rw first (rw second (rw named refl))
