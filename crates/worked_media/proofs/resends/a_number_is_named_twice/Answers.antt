use Rattle.std.proofs.Common.{◌≡◌, ℕ, List, [], ◌∷◌, ◌++◌, IfOk, ap, ◌∙◌, subst, refl}
use Rattle.rtcp_codec.specs.Nack.{numbers_of, numbers_named}
use Rattle.rtcp_codec.specs.declared.nack.NackWord.{NackWord}
use Rattle.worked_media.proofs.resends.a_number_is_named_twice.Goals as goal

abbrev word : ℕ → ℕ → NackWord
word pid blp = record { pid = pid; blp = blp }

asked : numbers_named (word 65535 1 ∷ word 0 2 ∷ []) ≡ 65535 ∷ 0 ∷ 0 ∷ 2 ∷ []
unfolding numbers_of
asked = refl

pub returns : goal.returns
returns c =
    let words =
    c.in_ok-push-2.ensures.items
    ∙ ap (λ (ws : List NackWord). ws ++ word 0 2 ∷ [])
    (c.in_ok-push.ensures.items ∙ ap (λ (ws : List NackWord). ws ++ word 65535 1 ∷ []) c.new-words.ensures.items) in
    subst (λ (ns : List ℕ). IfOk c.numbers_of.result (λ numbers. numbers.items ≡ ns)) (ap numbers_named words ∙ asked)
    c.numbers_of.ensures
