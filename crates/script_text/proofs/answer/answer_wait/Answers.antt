use Rattle.std.proofs.Common.{◌≡◌, ◌∙◌, refl}
use Rattle.std.specs.List.{flat_map}
use Rattle.ingress.specs.Ingested.{answered_of}
use Rattle.script_text.specs.Datagrams.{up_text}
use Rattle.script_text.proofs.BridgeLemmas.{wait_answered, on_ok}
use Rattle.script_text.proofs.answer.answer_wait.Goals as goal

pub returns-clause-answer : goal.returns-clause-answer
returns-clause-answer g c = on_ok c.answer_items.result _ _ c.answer_items.ensures.answer (λ hands.
    let freed = answered_of c.in_ok-answer.answer in
    let text : c.print_all_up.new.out.items ≡ flat_map up_text freed.up =
    rw c.deref.ensures.value at c.in_ok-print_all_up.ensures ∙ rw c.requires.empty refl in
    wait_answered c.args.core.now c.wait.new.self c.answer_items.new.core c.args.moment c.args.from c.args.ssrc freed
    c.print_all_up.new.out.items c.answer_items.new.out.items
    c.in_ok-answer.ensures.waits c.wait.ensures.others c.wait.ensures.asker text (rw c.deref-2.ensures.value at hands))
