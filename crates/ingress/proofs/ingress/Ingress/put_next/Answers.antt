use Rattle.std.proofs.Common.{◌∙◌, ◌+◌, ap, subst, if◌then◌else◌}
use Rattle.ingress.specs.inner.SourceEntries.{NextOf, Becomes}
use Rattle.ingress.specs.inner.Holding.{IngressOf, kept_for}
use Rattle.ingress.proofs.Moved.{moved}
use Rattle.ingress.proofs.ingress.Ingress.put_next.Goals as goal

pub returns-clause-kept : goal.returns-clause-kept
returns-clause-kept g c =
    let kept = c.in_ok-frames.ensures.becomes in (
      kept.0,
      subst (λ (i : IngressOf). Becomes (kept_for c.args.key c.args.next.rate i.entries) c.args.next kept.0)
          c.self.view_is kept.1,
      moved c.args.key kept.0 _ c.args.self.now c.args.next.begins _ _ c.self.view_is kept.2
          (c.counted-self-inside.ensures
          ∙ ap (λ (n : NextOf). if n.begins then c.self.inside.epochs + 1 else c.self.inside.epochs) c.next.view_is),
    )
