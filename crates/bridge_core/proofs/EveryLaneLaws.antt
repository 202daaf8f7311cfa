-- Items that are given to every lane.
use Rattle.std.proofs.Common.{◌≡◌, ◌≤◌, ◌<◌, ℕ, ◌+◌, true, false, cond, nat_eq, List, [], ◌∷◌, ◌++◌, map, zero, suc}
use Rattle.std.proofs.Common.{refl, sym, ap, ◌∙◌, arith, inl, inr}
use Rattle.std.specs.List.{range_with_len}
use Rattle.std.proofs.lemmas.Bool.{cases_eq}
use Rattle.std.proofs.lemmas.Bool.Decides.{nat_tests}
use Rattle.desk_rows.specs.Desk.{Desk}
use Rattle.media_items.specs.Inputs.{Input}
use Rattle.bridge_core.specs.Lanes.{Visit}
use Rattle.bridge_core.specs.LaneState.{visit_of}
use Rattle.bridge_core.specs.Steps.{Step, along, version_of, desk_of, items_given, visit_at, visits, visit_after}
use Rattle.bridge_core.specs.EveryLane.{to_every}
use Rattle.bridge_core.proofs.StepLaws.{version_of-publish, version_of-item, desk_of-publish, desk_of-item}

count_of-publish : (k : ℕ) (steps : List Step) (desk : Desk)
    → items_given k (steps ++ Step.publish desk ∷ []) ≡ items_given k steps
count_of-publish k [] desk = refl
count_of-publish k (Step.publish next ∷ steps) desk = count_of-publish k steps desk
count_of-publish k (Step.item to input ∷ steps) desk =
    ap (λ n. cond (nat_eq to k) (1 + n) n) (count_of-publish k steps desk)

count_of-mine : (k lane : ℕ) (steps : List Step) (input : Input) → nat_eq lane k ≡ true
    → items_given k (steps ++ Step.item lane input ∷ []) ≡ items_given k steps + 1
count_of-mine k lane [] input e = ap (λ b. cond b 1 0) e
count_of-mine k lane (Step.publish next ∷ steps) input e = count_of-mine k lane steps input e
count_of-mine k lane (Step.item to other ∷ steps) input e =
    let rest = count_of-mine k lane steps input e in
    elim (nat_eq to k) as (λ b.
    cond b (1 + items_given k (steps ++ Step.item lane input ∷ [])) (items_given k (steps ++ Step.item lane input ∷ []))
    ≡ cond b (1 + items_given k steps) (items_given k steps) + 1)
    [ true ↦ omega (arith, rest) | false ↦ rest ]

count_of-other : (k lane : ℕ) (steps : List Step) (input : Input) → nat_eq lane k ≡ false
    → items_given k (steps ++ Step.item lane input ∷ []) ≡ items_given k steps
count_of-other k lane [] input e = ap (λ b. cond b 1 0) e
count_of-other k lane (Step.publish next ∷ steps) input e = count_of-other k lane steps input e
count_of-other k lane (Step.item to other ∷ steps) input e =
    ap (λ n. cond (nat_eq to k) (1 + n) n) (count_of-other k lane steps input e)

-- what a lane handles that is given every item
abbrev heard : ℕ → ℕ → Desk → List Step → List Visit
heard version count desk [] = []
heard version count desk (Step.publish next ∷ steps) = heard (version + 1) count next steps
heard version count desk (Step.item to input ∷ steps) =
    visit_of version (count + 1) desk input ∷ heard version (count + 1) desk steps

abbrev heard_after : ℕ → Desk → List Step → List Step → List Visit
heard_after k start before steps = heard (version_of before) (items_given k before) (desk_of start before) steps

abbrev items : Input → ℕ → ℕ → List Step
items input from count = map (λ lane. Step.item lane input) (range_with_len from count)

-- the lane's turn is over
late : (k : ℕ) (start : Desk) (input : Input) (rest steps : List Step) (from count : ℕ) (before : List Step) → k < from
    → ((b : List Step) → along (visit_at k start) b rest ≡ heard_after k start b steps)
    → along (visit_at k start) before (items input from count ++ rest) ≡ heard_after k start before steps
late k start input rest steps from zero before over then_rest = then_rest before
late k start input rest steps from (suc count) before over then_rest =
    let after = before ++ Step.item from input ∷ [] in
    let not : nat_eq from k ≡ false = grind (arith, nat_tests) in
    ap
    (λ b.
    cond b (visit_after start before k input ∷ []) []
    ++ along (visit_at k start) after (items input (from + 1) count ++ rest))
    not
    ∙ late k start input rest steps (from + 1) count after (omega (arith, over)) then_rest
    ∙ ap (λ v. heard v (items_given k after) (desk_of start after) steps) (version_of-item before from input)
    ∙ ap (λ c. heard (version_of before) c (desk_of start after) steps) (count_of-other k from before input not)
    ∙ ap (λ d. heard (version_of before) (items_given k before) d steps) (desk_of-item start before from input)

-- the lane's turn is still to come
early : (k : ℕ) (start : Desk) (input : Input) (rest steps : List Step) (from count : ℕ) (before : List Step) → from ≤ k
    → k < from + count
    → ((b : List Step) → along (visit_at k start) b rest ≡ heard_after k start b steps)
    → along (visit_at k start) before (items input from count ++ rest)
    ≡ heard_after k start before (Step.item k input ∷ steps)
early k start input rest steps from zero before low high then_rest = absurd (omega (arith, low, high))
early k start input rest steps from (suc count) before low high then_rest =
    let after = before ++ Step.item from input ∷ [] in
    elim (cases_eq from k) [
      | inl same ↦
          (let is : nat_eq from k ≡ true = grind (arith, nat_tests) in
          ap
          (λ b.
          cond b (visit_after start before k input ∷ []) []
          ++ along (visit_at k start) after (items input (from + 1) count ++ rest))
          is
          ∙ ap (λ vs. visit_after start before k input ∷ vs)
          (late k start input rest steps (from + 1) count after (omega (arith, same)) then_rest
          ∙ ap (λ v. heard v (items_given k after) (desk_of start after) steps) (version_of-item before from input)
          ∙ ap (λ c. heard (version_of before) c (desk_of start after) steps) (count_of-mine k from before input is)
          ∙ ap (λ d. heard (version_of before) (items_given k before + 1) d steps)
          (desk_of-item start before from input)))
      | inr other ↦
          (let not : nat_eq from k ≡ false = grind (arith, nat_tests) in
          ap
          (λ b.
          cond b (visit_after start before k input ∷ []) []
          ++ along (visit_at k start) after (items input (from + 1) count ++ rest))
          not
          ∙ early k start input rest steps (from + 1) count after (omega (arith, low, other)) (omega (arith, high))
          then_rest
          ∙ ap (λ v. heard v (items_given k after) (desk_of start after) (Step.item k input ∷ steps))
          (version_of-item before from input)
          ∙ ap (λ c. heard (version_of before) c (desk_of start after) (Step.item k input ∷ steps))
          (count_of-other k from before input not)
          ∙ ap (λ d. heard (version_of before) (items_given k before) d (Step.item k input ∷ steps))
          (desk_of-item start before from input))
    ]

all_heard : (k lanes : ℕ) (start : Desk) (before steps : List Step) → k < lanes
    → along (visit_at k start) before (to_every lanes steps) ≡ heard_after k start before steps
all_heard k lanes start before [] within = refl
all_heard k lanes start before (Step.publish next ∷ steps) within =
    let after = before ++ Step.publish next ∷ [] in
    all_heard k lanes start after steps within
    ∙ ap (λ v. heard v (items_given k after) (desk_of start after) steps) (version_of-publish before next)
    ∙ ap (λ c. heard (version_of before + 1) c (desk_of start after) steps) (count_of-publish k before next)
    ∙ ap (λ d. heard (version_of before + 1) (items_given k before) d steps) (desk_of-publish start before next)
all_heard k lanes start before (Step.item to input ∷ steps) within =
    early k start input (to_every lanes steps) steps 0 lanes before (omega arith) (omega (arith, within))
    (λ b. all_heard k lanes start b steps within)

-- each lane handles the same
pub same_visits : (k j few many : ℕ) (start : Desk) (steps : List Step) → k < few → j < many
    → visits k start (to_every few steps) ≡ visits j start (to_every many steps)
same_visits k j few many start steps here there =
    all_heard k few start [] steps here ∙ sym (all_heard j many start [] steps there)
