-- What a stream sends is made by the items of its lane.
use Rattle.std.proofs.Common.{◌≡◌, ℕ, ◌%◌, true, false, cond, nat_eq, List, [], ◌∷◌, ◌++◌, refl, sym, ap, subst, ◌∙◌}
use Rattle.std.proofs.Common.{arith, inl, inr}
use Rattle.std.specs.List.{flat_map}
use Rattle.std.proofs.lemmas.Bool.{cases_eq}
use Rattle.std.proofs.lemmas.Bool.Decides.{nat_tests}
use Rattle.std.proofs.lemmas.List.Elements.{filter-append}
use Rattle.desk_rows.specs.Desk.{Desk}
use Rattle.media_items.specs.OwnStreams.{is_mine}
use Rattle.sender_feedback.specs.Upstream.{Asker}
use Rattle.bridge_core.specs.Sent.{Sent}
use Rattle.bridge_core.specs.Lanes.{Visit, sent_of_input, sends_at}
use Rattle.bridge_core.specs.Steps.{Step, along, visit_at, visits, visit_after, sent_at, sends}
use Rattle.bridge_core.specs.Named.{is_on, sent_on}
use Rattle.bridge_core.proofs.OnStreams.{on, on_share}
use Rattle.bridge_core.proofs.StepLaws.{visits-publish, visits-mine, visits-other}

-- what is sent on a stream for an item of its lane
abbrev sent_for : Asker → ℕ → List Visit → Visit → List Sent
sent_for who k before v = on k (sent_of_input who before v v.input)

-- what is sent on a stream for all items of its lane
abbrev sent_for_all : Asker → ℕ → List Visit → List Visit → List Sent
sent_for_all who k before [] = []
sent_for_all who k before (v ∷ vs) = sent_for who k before v ++ sent_for_all who k (before ++ v ∷ []) vs

by_visits : (who : Asker) (count k : ℕ) (start : Desk) (before steps : List Step)
    → sent_on k (along (sent_at who count start) before steps)
    ≡ sent_for_all who k (visits (k % count) start before) (along (visit_at (k % count) start) before steps)
by_visits who count k start before [] = refl
by_visits who count k start before (Step.publish next ∷ steps) =
    let after = before ++ Step.publish next ∷ [] in
    by_visits who count k start after steps
    ∙ ap (λ vs. sent_for_all who k vs (along (visit_at (k % count) start) after steps))
    (visits-publish (k % count) start before next)
by_visits who count k start before (Step.item lane input ∷ steps) =
    let after = before ++ Step.item lane input ∷ [] in
    let v = visit_after start before lane input in
    let mine = k % count in
    let here = visits lane start before in
    let rest = along (sent_at who count start) after steps in
    let later = along (visit_at mine start) after steps in
    filter-append (is_on k) (sends_at who lane count here v) (flat_map (λ es. es) rest)
    ∙ ap (λ s. on k (sends_at who lane count here v) ++ s) (by_visits who count k start after steps)
    ∙ ap (λ s. s ++ sent_for_all who k (visits mine start after) later)
    (on_share k lane count (sent_of_input who here v input))
    ∙ (elim (cases_eq lane mine) [
      | inl same ↦
          let is : is_mine lane count k ≡ true = grind (arith, nat_tests) in
          let to : nat_eq lane mine ≡ true = grind (arith, nat_tests) in
          ap (λ b. cond b (sent_for who k here v) [] ++ sent_for_all who k (visits mine start after) later) is
          ∙ subst
          (λ j.
          sent_for who k here v ++ sent_for_all who k (visits j start after) later
          ≡ sent_for_all who k (visits j start before) (visit_after start before j input ∷ later))
          same
          (ap (λ vs. sent_for who k here v ++ sent_for_all who k vs later) (visits-mine lane start before input))
          ∙ ap
          (λ b.
          sent_for_all who k (visits mine start before) (cond b (visit_after start before mine input ∷ []) [] ++ later))
          (sym to)
      | inr other ↦
          let not : is_mine lane count k ≡ false = grind (arith, nat_tests) in
          let to : nat_eq lane mine ≡ false = grind (arith, nat_tests) in
          ap (λ b. cond b (sent_for who k here v) [] ++ sent_for_all who k (visits mine start after) later) not
          ∙ ap (λ vs. sent_for_all who k vs later) (visits-other mine lane start before input other)
          ∙ ap
          (λ b.
          sent_for_all who k (visits mine start before) (cond b (visit_after start before mine input ∷ []) [] ++ later))
          (sym to)
    ])

-- whatever the lane counts, the same items of the stream's lane send the same on it
pub same_stream : (who : Asker) (few many : ℕ) (start : Desk) (these those : List Step) (ssrc : ℕ)
    → visits (ssrc % few) start these ≡ visits (ssrc % many) start those
    → sent_on ssrc (sends who few start these) ≡ sent_on ssrc (sends who many start those)
same_stream who few many start these those ssrc same =
    by_visits who few ssrc start [] these
    ∙ ap (sent_for_all who ssrc []) same
    ∙ sym (by_visits who many ssrc start [] those)
