use Rattle.std.proofs.Common.{◌≡◌, ◌∙◌, sym, ap, Some, None}
use Rattle.std.specs.Option.{option_copied}
use Rattle.ingress.specs.declared.known.OriginKey.{OriginKey}
use Rattle.ingress.specs.Sources.{Origin}
use Rattle.ingress.specs.inner.Holding.{IngressOf, key_of, kept_at}
use Rattle.ingress.proofs.ReceptionLemmas.{of_kept, of_none}
use Rattle.ingress.proofs.ingress.Ingress.reception.Goals as goal

pub returns-in-None : goal.returns-in-None
returns-in-None g c = λ s knows.
    let o : Origin = record { address = c.args.from.now; ssrc = c.args.ssrc } in
    let at : kept_at (key_of o) c.args.self.now.entries ≡ None =
    ap (λ (i : IngressOf). kept_at (key_of o) i.entries) (sym c.self.view_is)
    ∙ ap (λ (k : OriginKey). kept_at k c.self.inside.known) (sym c.key_of.ensures)
    ∙ sym c.at.ensures
    ∙ ap option_copied c.in-None.is in
    of_none o c.args.self.now.entries s.known knows.holds at

pub returns-in-Some : goal.returns-in-Some
returns-in-Some g c = λ s knows.
    let o : Origin = record { address = c.args.from.now; ssrc = c.args.ssrc } in
    let at : kept_at (key_of o) c.args.self.now.entries ≡ Some c.in-Some.kept.now =
    ap (λ (i : IngressOf). kept_at (key_of o) i.entries) (sym c.self.view_is)
    ∙ ap (λ (k : OriginKey). kept_at k c.self.inside.known) (sym c.key_of.ensures)
    ∙ sym c.at.ensures
    ∙ ap option_copied c.in-Some.is in
    of_kept o c.args.self.now.entries s.known c.in-Some.kept.now c.reception.result knows.holds at c.reception.ensures
