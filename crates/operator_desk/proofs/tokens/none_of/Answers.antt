use Rattle.std.proofs.Common.{◌≡◌, ◌<◌, length, rules, sym, ap, ◌∙◌, take, nat_eq, true, false}
use Rattle.std.specs.declared.sync.OnceToken.{OnceToken}
use Rattle.operator_desk.specs.Entry.{EntryOf}
use Rattle.operator_desk.specs.inner.Tokens.{shown}
use Rattle.operator_desk.specs.OwnCalls.{numbers}
use Rattle.operator_desk.proofs.TokenLemmas.{take_next, one_more}
use Rattle.operator_desk.proofs.LogLemmas.{other_numbers, own_behind}
use Rattle.operator_desk.proofs.tokens.none_of.Goals as goal

pub loop-k-preserved : goal.loop-k-preserved
loop-k-preserved c =
    let k = c.loop-k.k in
    let ys = c.args.entries.now.items in
    let y = c.index.result.now in
    let op = c.args.op in
    let few : k < length ys = search rules in
    let other : nat_eq y.value.op op ≡ false = search rules in
    ap (λ n. numbers op (take n (shown ys))) (sym (one_more k))
    ∙ (ap (numbers op) (take_next (λ (u : OnceToken EntryOf). u.value) ys k y few c.index.ensures)
    ∙ (other_numbers op (take k (shown ys)) y.value other ∙ c.loop-k.invariant))

pub returns-then-op-clause-some : goal.returns-then-op-clause-some
returns-then-op-clause-some c = λ same.
    let k = c.loop-k.k in
    let ys = c.args.entries.now.items in
    let y = c.index.result.now in
    let op = c.args.op in
    let few : k < length ys = search rules in
    let own : nat_eq y.value.op op ≡ true = search rules in
    own_behind op (shown ys) k y.value (take_next (λ (u : OnceToken EntryOf). u.value) ys k y few c.index.ensures) own
    (same ∙ sym c.loop-k.invariant)
