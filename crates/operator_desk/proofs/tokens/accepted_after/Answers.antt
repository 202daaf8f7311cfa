use Rattle.std.proofs.Common.{◌≡◌, ◌<◌, ◌+◌, ◌∙◌, ◌++◌, ◌∷◌, List, [], length, drop, ap, arith, rules}
use Rattle.call_history.specs.AcceptedCall.{AcceptedOf}
use Rattle.operator_desk.proofs.PastLemmas.{made, made_next, made_whole}
use Rattle.operator_desk.proofs.tokens.accepted_after.Goals as goal

pub loop-k-preserved : goal.loop-k-preserved
loop-k-preserved c =
    let inv = c.loop-k.invariant in
    let k = c.loop-k.k in
    let ys = c.args.entries.now.items in
    let y = c.index.result.now in
    let few : k < length ys = search rules in
    let since = inv.since in
    let is : c.accepted.result ≡ made (k + 1) y.value = c.accepted.ensures ∙ ap (made (k + 1)) c.read.ensures in
    record {
      calls =
          c.in_ok-push.ensures.items
          ∙ (ap (λ (ms : List AcceptedOf). ms ++ c.accepted.result ∷ []) inv.calls
          ∙ made_next ys c.args.version k y c.accepted.result few since c.index.ensures is);
      since = omega (arith, since);
    }

pub returns : goal.returns
returns c =
    let whole = made_whole c.args.entries.now.items c.loop-k.k (search rules) in
    c.loop-k.invariant.calls ∙ ap (drop c.args.version) whole
