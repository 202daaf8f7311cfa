use Rattle.std.proofs.Common.{◌≡◌, Bool, true, false, List, ℕ, ◌∙◌, refl, sym, ap, subst}
use Rattle.script_text.specs.Bridge.{Bridge, begun_bridge, answer_begin, text_of}
use Rattle.script_text.specs.inner.Cursor.{asker_in}
use Rattle.script_text.specs.inner.Steps.{Stands}
use Rattle.script_text.proofs.BridgeLemmas.{on_ok}
use Rattle.script_text.proofs.beginning.answer_begin.Goals as goal

pub returns-then-renews-clause-answer : goal.returns-then-renews-clause-answer
returns-then-renews-clause-answer g c =
    on_ok c.answer_item.result _ _ c.answer_item.ensures.answer (λ hands bridge heard stands.
    let who = asker_in c.args.named.settings in
    let h = hands (begun_bridge bridge.decoding who) (c.in_ok-core.ensures.stands bridge.decoding) in
    rw c.if-renews.true (h.0, h.1 ∙ rw c.requires.empty refl))

pub returns-else-renews-clause-answer : goal.returns-else-renews-clause-answer
returns-else-renews-clause-answer g c = λ bridge heard stands.
    rw c.if-renews.false (c.in_ok-core.ensures.stands bridge.decoding, c.requires.empty)
