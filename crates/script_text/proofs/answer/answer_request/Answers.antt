use Rattle.std.proofs.Common.{◌∙◌, refl}
use Rattle.script_text.proofs.BridgeLemmas.{on_ok}
use Rattle.script_text.proofs.answer.answer_request.Goals as goal

pub returns-in-Frame-clause-answer : goal.returns-in-Frame-clause-answer
returns-in-Frame-clause-answer g c =
    on_ok c.answer_item.result _ _ c.answer_item.ensures.answer (λ hands.
    rw c.in-Frame.is (λ bridge heard stands. (let h = hands bridge stands in (h.0, h.1 ∙ rw c.requires.empty refl))))

pub returns-in-Item-clause-answer : goal.returns-in-Item-clause-answer
returns-in-Item-clause-answer g c =
    on_ok c.answer_item-in-Item.result _ _ c.answer_item-in-Item.ensures.answer (λ hands.
    rw c.in-Item.is (λ bridge heard stands. (let h = hands bridge stands in (h.0, h.1 ∙ rw c.requires.empty refl))))

pub returns-in-Tick-clause-answer : goal.returns-in-Tick-clause-answer
returns-in-Tick-clause-answer g c =
    on_ok c.answer_item-in-Tick.result _ _ c.answer_item-in-Tick.ensures.answer (λ hands.
    rw c.in-Tick.is (λ bridge heard stands. (let h = hands bridge stands in (h.0, h.1 ∙ rw c.requires.empty refl))))
