use Rattle.std.proofs.Common.{rules, tests}
use Rattle.std.proofs.lemmas.Iterator.{YieldsList-from_slice, items_from_collect}
use Rattle.std.proofs.lemmas.Iterator.Consumers.{YieldsList-at, YieldsList-from_filter_map, YieldsList-from_chain}
use Rattle.desk_rows.specs.Naming.{subs_naming}
use Rattle.std.proofs.lemmas.Result.{IfOk-weaker}
use Rattle.topology.specs.inner.Takers.{subscriber, viewer}
use Rattle.topology.proofs.receivers.takers.Goals as goal

pub returns : goal.returns
returns g c = IfOk-weaker c.collect.result _ _ (λ v is. (c.members_if_shown.result.now, c.members_if_shown.ensures, is))
    (items_from_collect _ c.collect.ensures.ran
    (YieldsList-from_chain
    (YieldsList-at c.chain.ensures.first
    (YieldsList-from_filter_map _ (subscriber c.args.rows.now c.args.sender.now)
    (YieldsList-from_slice (subs_naming c.args.rows.now c.args.source) (cc)) c.filter_map.ensures.closure
    (λ x r q k. search (rules, tests))))
    (YieldsList-at c.chain.ensures.second
    (YieldsList-from_filter_map _ (viewer c.args.rows.now c.args.sender.now)
    (YieldsList-from_slice c.members_if_shown.result.now (cc)) c.filter_map-2.ensures.closure
    (λ x r q k. search (rules, tests))))
    c.chain.ensures.first_done
    c.chain.ensures.second_done))
