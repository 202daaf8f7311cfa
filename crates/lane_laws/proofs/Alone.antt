-- What one lane alone sends for another lane's items.
use Rattle.std.proofs.Common.{◌≡◌, ◌∙◌, ◌+◌, ◌%◌, ℕ, true, cond, nat_eq, if◌then◌else◌, List, [], ◌∷◌, ◌++◌, refl, ap}
use Rattle.std.proofs.Common.{sym, subst, arith, append_assoc}
use Rattle.std.specs.Prelude.{filter}
use Rattle.std.specs.List.{flat_map}
use Rattle.std.proofs.lemmas.List.{append-nil}
use Rattle.std.proofs.lemmas.Bool.Decides.{nat_tests}
use Rattle.std.proofs.lemmas.List.Elements.{filter-append}
use Rattle.desk_rows.specs.Desk.{Desk}
use Rattle.desk_edit.specs.Asked.{CallOf as Call}
use Rattle.desk_edit.specs.Calls.{CallHistory, no_calls, after_call}
use Rattle.sender_feedback.specs.Upstream.{Asker}
use Rattle.bridge_core.specs.Sent.{Sent, about}
use Rattle.bridge_core.specs.Lanes.{Visit, is_lanes, sent_of_input, sends_at}
use Rattle.bridge_core.specs.Steps.{Step, along, visits, visit_after, sent_at, sends}
use Rattle.bridge_core.specs.Events.{Event, steps_of}
use Rattle.media_workers.specs.LaneRuns.{Versioned, all_sent}
use Rattle.lane_laws.specs.Merges.{of_version, items_of, all_of, merge_from, merge}
use Rattle.lane_laws.specs.Shares.{of_lane}
use Rattle.lane_laws.specs.Replays.{sent_alone}

-- ---- what is about a lane's streams

-- a lane alone has all streams
one_has_all : (es : List Sent) → filter (is_lanes 0 1) es ≡ es
one_has_all [] = refl
one_has_all (e ∷ es) =
    let none : about e % 1 ≡ 0 = omega arith in
    let is : is_lanes 0 1 e ≡ true = grind (arith, nat_tests) in
    ap (λ b. cond b (e ∷ filter (is_lanes 0 1) es) (filter (is_lanes 0 1) es)) is
    ∙ ap (λ (xs : List Sent). e ∷ xs) (one_has_all es)

pub lane_of_alone : (who : Asker) (many lane : ℕ) (before vs : List Visit)
    → filter (is_lanes lane many) (all_sent who 0 1 before vs) ≡ all_sent who lane many before vs
lane_of_alone who many lane before [] = refl
lane_of_alone who many lane before (v ∷ vs) =
    let all = sent_of_input who before v v.input in
    let more = all_sent who 0 1 (before ++ v ∷ []) vs in
    filter-append (is_lanes lane many) (sends_at who 0 1 before v) more
    ∙ (ap (λ (es : List Sent). filter (is_lanes lane many) es ++ filter (is_lanes lane many) more) (one_has_all all)
    ∙ ap (λ (es : List Sent). filter (is_lanes lane many) all ++ es)
    (lane_of_alone who many lane (before ++ v ∷ []) vs))

-- ---- all that is sent

-- all items of these steps are of the first lane
abbrev AreFirst : List Step → Type 0
AreFirst [] = Unit {0}
AreFirst (Step.publish next ∷ steps) = AreFirst steps
AreFirst (Step.item to input ∷ steps) = (to ≡ 0) × AreFirst steps

joined : (who : Asker) (lanes : ℕ) (start : Desk) (before steps : List Step) → AreFirst steps
    → flat_map (λ es. es) (along (sent_at who lanes start) before steps)
    ≡ of_lane 0 steps (along (sent_at who lanes start) before steps)
joined who lanes start before [] first = refl
joined who lanes start before (Step.publish next ∷ steps) first =
    joined who lanes start (before ++ Step.publish next ∷ []) steps first
joined who lanes start before (Step.item to input ∷ steps) first =
    let after = before ++ Step.item to input ∷ [] in
    let now = sends_at who to lanes (visits to start before) (visit_after start before to input) in
    let rest = of_lane 0 steps (along (sent_at who lanes start) after steps) in
    let here : to ≡ 0 = first.0 in
    let is : nat_eq to 0 ≡ true = grind (arith, nat_tests) in
    ap (λ (es : List Sent). now ++ es) (joined who lanes start after steps first.1)
    ∙ sym (ap (λ b. if b then now ++ rest else rest) is)

items_first : (h : CallHistory) (xs : List Versioned) (events : List Event) → AreFirst (steps_of h events)
    → AreFirst (steps_of h (items_of 0 xs ++ events))
items_first h [] events rest = rest
items_first h (x ∷ xs) events rest = (refl, items_first h xs events rest)

version_first : (h : CallHistory) (version : ℕ) (items : List Versioned) (events : List Event)
    → AreFirst (steps_of h events) → AreFirst (steps_of h (all_of 0 version (items ∷ []) ++ events))
version_first h version items events rest =
    let own = items_of 0 (of_version version items) in
    subst (λ (es : List Event). AreFirst (steps_of h es)) (sym (append_assoc own [] events))
    (items_first h (of_version version items) events rest)

merge_first : (h : CallHistory) (version : ℕ) (calls : List Call) (items : List Versioned)
    → AreFirst (steps_of h (merge_from version calls (items ∷ [])))
merge_first h version [] items =
    subst (λ (es : List Event). AreFirst (steps_of h es)) (append-nil (all_of 0 version (items ∷ [])))
    (version_first h version items [] tt)
merge_first h version (call ∷ calls) items =
    version_first h version items (Event.called call ∷ merge_from (version + 1) calls (items ∷ []))
    (merge_first (after_call h call) (version + 1) calls items)

-- a lane alone sends all that is sent
pub alone_is : (who : Asker) (start : Desk) (calls : List Call) (items : List Versioned)
    → sent_alone who start calls items
    ≡ of_lane 0 (steps_of (no_calls start) (merge calls (items ∷ [])))
    (sends who 1 start (steps_of (no_calls start) (merge calls (items ∷ []))))
alone_is who start calls items =
    joined who 1 start [] (steps_of (no_calls start) (merge calls (items ∷ [])))
    (merge_first (no_calls start) 0 calls items)
