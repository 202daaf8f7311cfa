use Rattle.std.proofs.Common.{◌≡◌, ◌∙◌, map, refl}
use Rattle.std.specs.List.{flat_map}
use Rattle.ingress.specs.Ingested.{datagram_of}
use Rattle.script_text.specs.Datagrams.{up_text}
use Rattle.script_text.proofs.BridgeLemmas.{report_answered, on_ok}
use Rattle.script_text.proofs.answer.answer_report.Goals as goal

pub returns-clause-answer : goal.returns-clause-answer
returns-clause-answer g c = on_ok c.answer_item.result _ _ c.answer_item.ensures.answer (λ hands.
    let up = map datagram_of c.in_ok-up.up.items in
    let text : c.print_all_up.new.out.items ≡ flat_map up_text up =
    rw c.deref.ensures.value at c.in_ok-print_all_up.ensures ∙ rw c.requires.empty refl in
    report_answered c.args.core.now c.reports.new.self c.answer_item.new.core c.args.moment up
    c.print_all_up.new.out.items c.answer_item.new.out.items
    c.in_ok-up.ensures.tells c.reports.ensures.others c.reports.ensures.asker text hands)
