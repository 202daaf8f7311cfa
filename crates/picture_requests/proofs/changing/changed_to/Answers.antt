use Rattle.std.proofs.Common.{◌≡◌, List, not, filter, IfOk, ap, subst, ◌∙◌, rules, tests}
use Rattle.std.specs.List.{list_any}
use Rattle.std.proofs.lemmas.Iterator.{YieldsList-from_slice, YieldsList-from_map, items_from_collect}
use Rattle.std.proofs.lemmas.Iterator.Consumers.{YieldsList-at, YieldsList-from_filter}
use Rattle.picture_requests.specs.declared.source.VideoSource.{VideoSource}
use Rattle.picture_requests.specs.declared.choosing.SlotChoice.{SlotChoice}
use Rattle.picture_requests.specs.Choices.{same_choice, chosen_sources}
use Rattle.picture_requests.proofs.Once.{has_choice}
use Rattle.picture_requests.proofs.changing.changed_to.Goals as goal

pub returns : goal.returns
returns g c =
    let before = c.args.before.now in
    let after = c.args.after.now in
    let keys = c.in_ok-known.known.keys in
    let known : (x : SlotChoice) → list_any (same_choice x) keys ≡ list_any (same_choice x) before = λ x.
    ap (list_any (same_choice x)) c.in_ok-known.ensures ∙ has_choice x before in
    subst (λ (xs : List VideoSource). IfOk c.collect.result (λ v. v.items ≡ xs))
    (λ i. chosen_sources (filter (λ x. not (known x i)) after))
    (items_from_collect _ c.collect.ensures.ran
    (YieldsList-from_map _ (λ (x : SlotChoice). x.source)
    (YieldsList-at c.map.ensures.source
    (YieldsList-from_filter _ (λ (x : SlotChoice). not (list_any (same_choice x) keys))
    (YieldsList-from_slice after (cc)) c.filter.ensures.closure (λ x b q k. search (rules, tests))))
    c.map.ensures.closure (λ x b q k. search (rules, tests))))
