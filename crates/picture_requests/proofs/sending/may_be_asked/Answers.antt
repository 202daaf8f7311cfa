use Rattle.std.proofs.Common.{◌≡◌, List, filter, not, IfOk, ap, subst, ◌∙◌, rules, tests}
use Rattle.std.proofs.lemmas.Iterator.{YieldsList-from_slice, items_from_collect}
use Rattle.std.proofs.lemmas.Iterator.Consumers.{YieldsList-at, YieldsList-from_filter, YieldsList-from_copied}
use Rattle.picture_requests.specs.declared.source.VideoSource.{VideoSource}
use Rattle.picture_requests.specs.Sources.{is_among, each_once}
use Rattle.picture_requests.specs.Requests.{asked_lately}
use Rattle.picture_requests.proofs.Once.{has_source}
use Rattle.picture_requests.proofs.sending.may_be_asked.Goals as goal

pub returns : goal.returns
returns g c =
    let waiting = c.args.waiting.now in
    let lately = asked_lately c.args.moment c.args.sent.now in
    let keys = c.in_ok-asked.asked.keys in
    let asked : (x : VideoSource) → is_among keys x ≡ is_among lately x = λ x.
    ap (λ ks. is_among ks x) c.in_ok-asked.ensures
    ∙ ap (λ xs. is_among (each_once xs) x) (c.deref.ensures.value ∙ c.in_ok-lately.ensures)
    ∙ has_source x lately in
    subst (λ (xs : List VideoSource). IfOk c.collect.result (λ v. v.items ≡ xs))
    (λ i. filter (λ x. not (asked x i)) waiting)
    (items_from_collect _ c.collect.ensures.ran
    (YieldsList-from_copied
    (YieldsList-at c.copied.ensures.source
    (YieldsList-from_filter _ (λ x. not (is_among keys x)) (YieldsList-from_slice waiting (cc)) c.filter.ensures.closure
    (λ x b q k. search (rules, tests))))))
