use Rattle.std.proofs.Common.{List, ◌∙◌, ◌++◌, ap, map}
use Rattle.std.specs.List.{flat_map}
use Rattle.media_items.specs.Inputs.{input_of}
use Rattle.bridge_core.specs.Sent.{Sent, sent_of}
use Rattle.script_text.specs.SentLines.{sent_text}
use Rattle.script_text.proofs.BridgeLemmas.{item_answered, on_ok}
use Rattle.script_text.proofs.answer.answer_item.Goals as goal

pub returns-in-Ok-clause-answer : goal.returns-in-Ok-clause-answer
returns-in-Ok-clause-answer g c = on_ok c.print_all.result _ _ c.print_all.ensures (λ text bridge stands.
    let h =
    item_answered c.args.core.now c.item.new.self bridge (input_of c.args.item.now) (map sent_of c.in-Ok.egresses.items)
    stands c.in-Ok.ensures.takes c.item.ensures.desk.0 c.item.ensures.desk.1 c.item.ensures.history.2
    c.item.ensures.history.0 c.item.ensures.history.1 c.item.ensures.lanes c.item.ensures.ingress in (
      h.0,
      rw c.deref.ensures.value at text ∙ ap (λ (out : List Sent). c.args.out.now.items ++ flat_map sent_text out) h.1,
    ))
