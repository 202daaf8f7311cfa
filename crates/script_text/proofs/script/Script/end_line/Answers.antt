use Rattle.std.proofs.Common.{List, ℕ, ◌+◌, ap, ◌∙◌, Ok, Err}
use Rattle.std.specs.Str.Lines.{strip_carriage_return}
use Rattle.script_text.proofs.StepLemmas.{line_answered, first_heard}
use Rattle.script_text.proofs.script.Script.end_line.Goals as goal

pub returns-in-Err-clause-step : goal.returns-in-Err-clause-step
returns-in-Err-clause-step g c = rw (← c.self.view_is) (λ bridge tail heard stands.
    let line = c.without_cr-line.ensures ∙ ap strip_carriage_return c.deref.ensures.value in
    let h =
    c.in-Err.ensures.answer bridge
    (first_heard bridge.decoding c.self.inside.line c.self.inside.pending.items tail _ c.self.invariant.1 line heard)
    stands in (
      h.0,
      h.1,
      line_answered
          (record { core = c.self.inside.core; line = c.self.inside.line; pending = c.self.inside.pending.items })
          c.args.self.now bridge c.answer.new.core _ tail h.0 (Err c.in-Err.fault) c.self.invariant.1 heard line h.2 tt,
    ))

pub returns-in-Ok-clause-step : goal.returns-in-Ok-clause-step
returns-in-Ok-clause-step g c = rw (← c.self.view_is) (λ bridge tail heard stands.
    let line = c.without_cr-line.ensures ∙ ap strip_carriage_return c.deref.ensures.value in
    let h =
    c.in-Ok.ensures.answer bridge
    (first_heard bridge.decoding c.self.inside.line c.self.inside.pending.items tail _ c.self.invariant.1 line heard)
    stands in (
      h.0,
      h.1,
      line_answered
          (record { core = c.self.inside.core; line = c.self.inside.line; pending = c.self.inside.pending.items }) _
          bridge
          c.answer.new.core _ tail h.0 (Ok tt) c.self.invariant.1 heard line h.2
          (ap (λ (p : List ℕ). record { core = c.answer.new.core; line = c.self.inside.line + 1; pending = p })
          c.clear.ensures.items),
    ))
