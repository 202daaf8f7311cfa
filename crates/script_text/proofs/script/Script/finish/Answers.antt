use Rattle.script_text.proofs.StepLemmas.{finished, last_heard}
use Rattle.script_text.proofs.script.Script.finish.Goals as goal

pub returns-clause-end : goal.returns-clause-end
returns-clause-end g c = rw (← c.self.view_is) (λ bridge heard stands.
    let h =
    c.answer.ensures.answer bridge
    (last_heard bridge.decoding c.self.inside.line c.self.inside.pending.items _ c.self.invariant.1
    c.deref.ensures.value heard)
    stands in (
      h.0,
      h.1,
      finished (record { core = c.self.inside.core; line = c.self.inside.line; pending = c.self.inside.pending.items })
          bridge c.answer.new.core _ h.0 c.answer.result c.self.invariant.1 c.deref.ensures.value h.2,
    ))
