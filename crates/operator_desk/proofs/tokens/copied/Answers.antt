use Rattle.std.proofs.Common.{◌+◌, ◌<◌, ◌++◌, ◌∷◌, [], length, rules, sym, ap, ◌∙◌, take}
use Rattle.std.specs.declared.sync.OnceToken.{OnceToken}
use Rattle.operator_desk.specs.Entry.{EntryOf}
use Rattle.operator_desk.specs.inner.Tokens.{shown}
use Rattle.operator_desk.proofs.TokenLemmas.{take_next, one_more}
use Rattle.operator_desk.proofs.tokens.copied.Goals as goal

pub loop-k-preserved : goal.loop-k-preserved
loop-k-preserved c =
    let inv = c.loop-k.invariant in
    let k = c.loop-k.k in
    let ys = c.args.entries.now.items in
    let y = c.index.result.now in
    let few : k < length ys = search rules in
    record {
      copies =
          c.push_reserved.ensures.items
          ∙ (ap (λ e. c.loop-k.copies.items ++ e ∷ []) (c.in_ok-copy.ensures ∙ c.read.ensures)
          ∙ (ap (λ es. es ++ y.value ∷ []) inv.copies
          ∙ (sym (take_next (λ (u : OnceToken EntryOf). u.value) ys k y few c.index.ensures)
          ∙ ap (λ n. take n (shown ys)) (one_more k))));
      length = c.push_reserved.ensures.len ∙ ap (λ n. n + 1) inv.length;
      capacity = c.push_reserved.ensures.capacity ∙ inv.capacity;
    }
