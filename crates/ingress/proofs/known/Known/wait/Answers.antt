use Rattle.std.proofs.Common.{◌≡◌, ◌∙◌, ap, sym, subst, is_some, true, Some}
use Rattle.std.specs.Option.{option_copied_mut}
use Rattle.ingress.specs.inner.SourceEntries.{gate_in}
use Rattle.ingress.specs.inner.Holding.{kept_at}
use Rattle.ingress.proofs.known.Known.wait.Goals as goal

pub wait-requires : goal.wait-requires
wait-requires g c =
    let at : kept_at c.args.key.now c.args.self.now ≡ Some c.in-Some.kept.now =
    ap (kept_at c.args.key.now) (sym c.self.view_is)
    ∙ sym c.peek_mut.ensures.value
    ∙ ap option_copied_mut c.in-Some.is in
    record { ready = subst (λ o. is_some (gate_in o) ≡ true) at c.requires.ready }
