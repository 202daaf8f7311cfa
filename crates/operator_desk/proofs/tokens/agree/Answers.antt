use Rattle.std.proofs.Common.{◌≡◌, ◌<◌, ℕ, length, vec_len, rules, subst, ap, ◌∙◌, take}
use Rattle.operator_desk.specs.inner.Tokens.{shown}
use Rattle.operator_desk.proofs.TokenLemmas.{Agree, agree_more, agree_all, same_mark, one_more}
use Rattle.operator_desk.proofs.tokens.agree.Goals as goal

pub agrees-requires : goal.agrees-requires
agrees-requires c =
    let xs = c.args.fewer.now.items in
    let ys = c.args.more.now.items in
    let few : c.loop-k.k < length xs = search rules in
    let few2 : c.loop-k.k < length ys = search rules in
    same_mark c.args.log.now xs ys c.loop-k.k c.index.result.now c.index-in-loop-k.result.now c.requires.fewer
    c.requires.more few few2 c.index.ensures c.index-in-loop-k.ensures

pub loop-k-preserved : goal.loop-k-preserved
loop-k-preserved c =
    let xs = c.args.fewer.now.items in
    let ys = c.args.more.now.items in
    let few : c.loop-k.k < length xs = search rules in
    let few2 : c.loop-k.k < length ys = search rules in
    subst (λ (n : ℕ). Agree n xs ys) (one_more c.loop-k.k) (agree_more xs ys c.loop-k.k c.index.result.now
    c.index-in-loop-k.result.now c.loop-k.invariant few few2 c.index.ensures c.index-in-loop-k.ensures c.agrees.ensures)

pub returns : goal.returns
returns c =
    let xs = c.args.fewer.now.items in
    let ys = c.args.more.now.items in
    let all : c.loop-k.k ≡ length xs = search rules in
    let long : length xs ≡ vec_len c.args.fewer.now = search rules in
    agree_all xs ys (subst (λ (n : ℕ). Agree n xs ys) all c.loop-k.invariant) ∙ ap (λ n. take n (shown ys)) long
