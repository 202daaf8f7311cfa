use Rattle.std.proofs.Common.{◌≡◌, ℕ, List, ◌++◌, ◌∙◌, ap, refl}
use Rattle.std.specs.List.{flat_map}
use Rattle.ingress.specs.Ingested.{ingested_of}
use Rattle.script_text.specs.Datagrams.{outcome_text, up_text}
use Rattle.script_text.proofs.BridgeLemmas.{datagram_answered, on_ok}
use Rattle.script_text.proofs.answer.answer_datagram.Goals as goal

pub returns-clause-answer : goal.returns-clause-answer
returns-clause-answer g c = on_ok c.answer_items.result _ _ c.answer_items.ensures.answer (λ hands.
    let ingested = ingested_of c.in_ok-ingest.ingest in
    let outcome : c.print_outcome.new.out.items ≡ outcome_text ingested.outcome =
    c.in_ok-print_outcome.ensures ∙ rw c.requires.empty refl in
    let text : c.print_all_up.new.out.items ≡ outcome_text ingested.outcome ++ flat_map up_text ingested.up =
    rw c.deref.ensures.value at c.in_ok-print_all_up.ensures
    ∙ ap (λ (t : List ℕ). t ++ flat_map up_text ingested.up) outcome in
    datagram_answered c.args.core.now c.datagram.new.self c.answer_items.new.core c.args.moment c.args.from
    c.args.octets.now ingested c.print_all_up.new.out.items c.answer_items.new.out.items
    c.in_ok-ingest.ensures.takes c.datagram.ensures.others c.datagram.ensures.asker text
    (rw c.deref-2.ensures.value at hands))
