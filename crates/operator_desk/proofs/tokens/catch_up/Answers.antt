use Rattle.std.proofs.Common.{◌≡◌, ◌+◌, ◌<◌, ◌++◌, ◌∷◌, [], length, rules, sym, ap, ◌∙◌, take}
use Rattle.std.proofs.lemmas.List.{map-append}
use Rattle.std.specs.declared.sync.OnceToken.{OnceToken}
use Rattle.operator_desk.specs.Entry.{EntryOf}
use Rattle.operator_desk.specs.inner.Tokens.{marks, shown}
use Rattle.operator_desk.proofs.TokenLemmas.{take_next, one_more}
use Rattle.operator_desk.proofs.tokens.catch_up.Goals as goal

pub loop-k-preserved : goal.loop-k-preserved
loop-k-preserved c =
    let inv = c.loop-k.invariant in
    let k = c.loop-k.k in
    let ys = c.args.entries.now.items in
    let y = c.index.result.now in
    let old = c.loop-k.seen.items in
    let t = c.again.result in
    let value = λ (u : OnceToken EntryOf). u.value in
    let of = λ (u : OnceToken EntryOf). u.of in
    let few : k < length ys = search rules in
    let items : c.push_reserved.new.self.items ≡ old ++ t ∷ [] = c.push_reserved.ensures.items in
    record {
      marks =
          ap marks items
          ∙ (map-append of old (t ∷ [])
          ∙ (ap (λ m. marks old ++ m ∷ []) c.again.ensures.0
          ∙ (ap (λ ms. ms ++ y.of ∷ []) inv.marks
          ∙ (sym (take_next of ys k y few c.index.ensures) ∙ ap (λ n. take n (marks ys)) (one_more k)))));
      shown =
          ap shown items
          ∙ (map-append value old (t ∷ [])
          ∙ (ap (λ m. shown old ++ m ∷ []) c.again.ensures.1
          ∙ (ap (λ ms. ms ++ y.value ∷ []) inv.shown
          ∙ (sym (take_next value ys k y few c.index.ensures) ∙ ap (λ n. take n (shown ys)) (one_more k)))));
      length = c.push_reserved.ensures.len ∙ ap (λ n. n + 1) inv.length;
      capacity = c.push_reserved.ensures.capacity ∙ inv.capacity;
    }
