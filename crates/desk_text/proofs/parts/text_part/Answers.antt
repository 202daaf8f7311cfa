use Rattle.std.proofs.Common.{◌≡◌, ◌+◌, ℕ, length, true, false, subst, rules, arith}
use Rattle.desk_text.specs.Calls.{is_slash}
use Rattle.desk_text.specs.Words.{words_in}
use Rattle.desk_text.proofs.PartLemmas.{tail_is, Walks, goes_on, slash_ends, slash_size, text_ends}
use Rattle.desk_text.proofs.parts.text_part.Goals as goal

pub returns-then-eq-clause-parts : goal.returns-then-eq-clause-parts
returns-then-eq-clause-parts c =
    let is : is_slash c.first_word.result.0.now ≡ true = search rules in
    let e = rw (tail_is c.loop-word.at c.args.text.now) at c.first_word.ensures.words in
    let ends =
    slash_ends c.args.text.now c.loop-word.count c.loop-word.at c.first_word.result.0.now
    (words_in c.first_word.result.1) c.loop-word.invariant e is in
    rw c.front.ensures ends.0

pub returns-then-eq-clause-shorter : goal.returns-then-eq-clause-shorter
returns-then-eq-clause-shorter c =
    let is : is_slash c.first_word.result.0.now ≡ true = search rules in
    let e = rw (tail_is c.loop-word.at c.args.text.now) at c.first_word.ensures.words in
    slash_size c.args.text.now c.loop-word.count c.loop-word.at c.first_word.result.0.now c.first_word.result.1
    c.loop-word.invariant e is

pub returns-in-None-clause-parts : goal.returns-in-None-clause-parts
returns-in-None-clause-parts c =
    let isnt : is_slash c.first_word.result.0.now ≡ false = search rules in
    let e = rw (tail_is c.loop-word.at c.args.text.now, c.in-None.is) at c.first_word.ensures.words in
    (text_ends c.args.text.now c.loop-word.count c.loop-word.at c.first_word.result.0.now c.loop-word.invariant e
    isnt).0

pub returns-in-None-clause-count : goal.returns-in-None-clause-count
returns-in-None-clause-count c =
    let isnt : is_slash c.first_word.result.0.now ≡ false = search rules in
    let e = rw (tail_is c.loop-word.at c.args.text.now, c.in-None.is) at c.first_word.ensures.words in
    (text_ends c.args.text.now c.loop-word.count c.loop-word.at c.first_word.result.0.now c.loop-word.invariant e
    isnt).1

pub loop-word-preserved : goal.loop-word-preserved
loop-word-preserved c =
    let isnt : is_slash c.first_word.result.0.now ≡ false = search rules in
    let e = rw (tail_is c.loop-word.at c.args.text.now, c.in-Some.is) at c.first_word.ensures.words in
    let next =
    goes_on c.args.text.now c.loop-word.count c.loop-word.at c.first_word.result.0.now c.in-Some.field-0.now
    c.loop-word.invariant e isnt in
    let place : c.loop-word.at + length c.first_word.result.0.now + 1
    ≡ c.loop-word.at + (length c.first_word.result.0.now + 1) =
    omega arith in
    subst (λ (n : ℕ). Walks c.args.text.now (c.loop-word.count + 1) n) place next
