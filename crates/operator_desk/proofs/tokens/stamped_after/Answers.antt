use Rattle.std.proofs.Common.{◌≡◌, ◌<◌, ◌+◌, ◌∙◌, ◌++◌, ◌∷◌, List, [], length, drop, ap, arith, rules}
use Rattle.call_history.specs.Stamp.{StampedOf}
use Rattle.operator_desk.proofs.StampLemmas.{stamped, stamped_next, stamped_whole}
use Rattle.operator_desk.proofs.tokens.stamped_after.Goals as goal

pub loop-k-preserved : goal.loop-k-preserved
loop-k-preserved c =
    let inv = c.loop-k.invariant in
    let k = c.loop-k.k in
    let ys = c.args.entries.now.items in
    let y = c.index.result.now in
    let few : k < length ys = search rules in
    let since = inv.since in
    let is : c.stamped.result ≡ stamped (k + 1) y.value = c.stamped.ensures ∙ ap (stamped (k + 1)) c.read.ensures in
    record {
      calls =
          c.in_ok-push.ensures.items
          ∙ (ap (λ (ms : List StampedOf). ms ++ c.stamped.result ∷ []) inv.calls
          ∙ stamped_next ys c.args.version k y c.stamped.result few since c.index.ensures is);
      since = omega (arith, since);
    }

pub returns : goal.returns
returns c =
    let whole = stamped_whole c.args.entries.now.items c.loop-k.k (search rules) in
    c.loop-k.invariant.calls ∙ ap (drop c.args.version) whole
