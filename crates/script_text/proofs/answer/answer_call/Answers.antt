use Rattle.std.proofs.Common.{◌∙◌, sym}
use Rattle.desk_edit.specs.Asked.{asked_by}
use Rattle.script_text.proofs.BridgeLemmas.{call_answered, on_ok}
use Rattle.script_text.proofs.answer.answer_call.Goals as goal

pub returns-clause-answer : goal.returns-clause-answer
returns-clause-answer g c = on_ok c.print_reply.result _ _ c.print_reply.ensures.ok (λ text bridge heard stands.
    let h =
    call_answered c.args.op c.args.core.now c.desk-reply.new.self bridge (asked_by c.args.call) c.desk-reply.result
    stands c.desk-reply.ensures.answer (c.desk-reply.ensures.history bridge.calls stands.called)
    c.desk-reply.ensures.takes c.desk-reply.ensures.ingress (sym c.wants_memory.ensures ∙ c.if-wants_memory.false) in
    (h.0, text ∙ (rw c.requires h.1)))
