use Rattle.std.proofs.Common.{◌≡◌, List, filter, IfOk, ap, subst, ◌∙◌, rules, tests}
use Rattle.std.proofs.lemmas.Iterator.{YieldsList-from_slice, items_from_collect}
use Rattle.std.proofs.lemmas.Iterator.Consumers.{YieldsList-at, YieldsList-from_filter, YieldsList-from_copied}
use Rattle.picture_requests.specs.declared.source.VideoSource.{VideoSource}
use Rattle.picture_requests.specs.Sources.{is_among, each_once}
use Rattle.picture_requests.specs.Choices.{chosen_sources}
use Rattle.picture_requests.proofs.Once.{has_source}
use Rattle.picture_requests.proofs.changing.still_chosen.Goals as goal

pub returns : goal.returns
returns g c =
    let waiting = c.args.waiting.now in
    let sources = chosen_sources c.args.choices.now in
    let keys = c.in_ok-chosen.chosen.keys in
    let chosen : (x : VideoSource) → is_among keys x ≡ is_among sources x = λ x.
    ap (λ ks. is_among ks x) c.in_ok-chosen.ensures
    ∙ ap (λ xs. is_among (each_once xs) x) (c.deref.ensures.value ∙ c.in_ok-sources.ensures)
    ∙ has_source x sources in
    subst (λ (xs : List VideoSource). IfOk c.collect.result (λ v. v.items ≡ xs)) (λ i. filter (λ x. chosen x i) waiting)
    (items_from_collect _ c.collect.ensures.ran
    (YieldsList-from_copied
    (YieldsList-at c.copied.ensures.source
    (YieldsList-from_filter _ (is_among keys) (YieldsList-from_slice waiting (cc)) c.filter.ensures.closure
    (λ x b q k. search (rules, tests))))))
