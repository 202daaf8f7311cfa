use Rattle.std.proofs.Common.{◌≡◌, [], arith, sym, ap, ◌∙◌}
use Rattle.std.specs.Prelude.{◌++◌}
use Rattle.std.proofs.lemmas.List.{nil_from_length, append-nil}
use Rattle.rtcp_codec.specs.Nack.{numbers_named}
use Rattle.rtcp_codec.proofs.Packing.{are_greedy, are_packed, are_apart}
use Rattle.rtcp_codec.proofs.PackedOnce.{packed_once}
use Rattle.rtcp_codec.proofs.nack.nack_words.Goals as goal

pub returns-clause-packed : goal.returns-clause-packed
returns-clause-packed g c =
    are_packed c.loop-rest.words.items (are_greedy c.loop-rest.words.items c.loop-rest.rest.now
    c.loop-rest.invariant.packed (nil_from_length c.loop-rest.rest.now (omega arith)))

pub returns-clause-apart : goal.returns-clause-apart
returns-clause-apart g c rising =
    let end : c.loop-rest.rest.now ≡ [] = nil_from_length c.loop-rest.rest.now (omega arith) in
    let names : numbers_named c.loop-rest.words.items ≡ c.args.numbers.now =
    sym (append-nil (numbers_named c.loop-rest.words.items))
    ∙ ap (λ l. numbers_named c.loop-rest.words.items ++ l) (sym end)
    ∙ c.loop-rest.invariant.names in
    are_apart c.loop-rest.words.items c.args.numbers.now names (λ k. omega (arith, c.type_inv.numbers k)) rising
    (are_greedy c.loop-rest.words.items c.loop-rest.rest.now c.loop-rest.invariant.packed end)

pub returns-clause-only : goal.returns-clause-only
returns-clause-only g c words is =
    let end : c.loop-rest.rest.now ≡ [] = nil_from_length c.loop-rest.rest.now (omega arith) in
    let names : numbers_named c.loop-rest.words.items ≡ c.args.numbers.now =
    sym (append-nil (numbers_named c.loop-rest.words.items))
    ∙ ap (λ l. numbers_named c.loop-rest.words.items ++ l) (sym end)
    ∙ c.loop-rest.invariant.names in
    let packed =
    are_packed c.loop-rest.words.items
    (are_greedy c.loop-rest.words.items c.loop-rest.rest.now c.loop-rest.invariant.packed end) in
    packed_once c.loop-rest.words.items words c.loop-rest.invariant.fits is.fits packed is.packed (names ∙ sym is.names)
