use Rattle.std.proofs.Common.{◌∷◌, [], ◌++◌, ◌≡◌, refl, sym}
use Rattle.script_text.proofs.StepLemmas.{too_long, kept_goes, kept_heard, none_ended, pushed}
use Rattle.script_text.proofs.script.Script.extend_line.Goals as goal

pub returns-then-is_past-clause-step : goal.returns-then-is_past-clause-step
returns-then-is_past-clause-step g c =
    let past = sym c.if-is_past.ensures in
    let long = rw c.deref.ensures.value at past in
    rw (← c.self.view_is) (λ bridge behind heard stands tail.
    too_long _ (c.args.octet ∷ tail) c.self.invariant.1 long)

pub returns-then-is_err-clause-step : goal.returns-then-is_err-clause-step
returns-then-is_err-clause-step g c =
    rw (← c.self.view_is) (λ bridge tail heard stands. ([], (c.args.octet ∷ [], refl), none_ended _ c.self.invariant.1))

pub returns-clause-step : goal.returns-clause-step
returns-clause-step g c =
    let e : c.push.new.self.items ≡ c.self.inside.pending.items ++ c.args.octet ∷ [] =
    pushed c.push.result _ _ _ c.if-is_err.ensures.value c.push.ensures.items in
    rw (← c.self.view_is, e) (λ bridge tail heard stands. (
      bridge,
      stands,
      kept_goes (record { bridge = bridge; line = c.self.inside.line; pending = c.self.inside.pending.items })
          c.args.octet,
      kept_heard bridge.decoding c.self.inside.pending.items tail c.args.octet heard,
    ))
