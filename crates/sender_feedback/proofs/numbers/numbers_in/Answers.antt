use Rattle.std.proofs.Common.{◌++◌, ap, sym, ◌∙◌, List}
use Rattle.std.proofs.lemmas.List.{append-nil, drop_all}
use Rattle.rtcp_codec.specs.Nack.{numbers_named}
use Rattle.rtcp_codec.specs.declared.nack.NackWord.{NackWord}
use Rattle.sender_feedback.proofs.numbers.numbers_in.Goals as goal

pub returns : goal.returns
returns g c =
    let out = c.loop-word.numbers.items in
    let none = drop_all c.loop-word.word-index c.args.words.now c.loop-word-test.false in
    sym (append-nil out) ∙ ap (λ (ws : List NackWord). out ++ numbers_named ws) (sym none) ∙ c.loop-word.invariant
