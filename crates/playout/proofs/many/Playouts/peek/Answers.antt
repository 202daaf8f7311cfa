use Rattle.std.proofs.Common.{◌≡◌, ◌∙◌, ap, sym, subst, length, Some, None, List, ℤ, pos, get_or, arith}
use Rattle.std.proofs.lemmas.List.{get_or-replicate}
use Rattle.std.specs.Map.{lookup}
use Rattle.std.specs.Option.{option_copied}
use Rattle.playout.specs.declared.many.SourceKey.{SourceKey}
use Rattle.playout.specs.Playouts.{PlayoutsOf, ShowsOf}
use Rattle.playout.specs.inner.Holds.{PlayoutOf, ShowsAt}
use Rattle.playout.proofs.EachSource.{same_key, shown, shown_none}
use Rattle.playout.proofs.many.Playouts.peek.Goals as goal

pub returns-in-Some : goal.returns-in-Some
returns-in-Some g c =
    let inside : PlayoutsOf = record { renews = c.self.inside.renews; sources = c.self.inside.table.entries } in
    let at : lookup (same_key c.key_of.result) inside.sources ≡ Some c.in-Some.kept.now =
    sym c.get.ensures.value ∙ ap option_copied c.in-Some.is in
    subst
    (λ (p : PlayoutsOf). ShowsOf p c.args.source c.args.address.now c.args.rate c.peek_at.new.out c.peek_at.result)
    c.self.view_is
    (shown inside c.args.source c.args.address.now c.args.rate c.peek_at.new.out c.in-Some.kept.now c.peek_at.result
    (ap (λ (k : SourceKey). lookup (same_key k) inside.sources) (sym c.key_of.ensures) ∙ at)
    (subst (λ (p : PlayoutOf). ShowsAt p c.args.rate c.peek_at.new.out c.peek_at.result) c.playout.ensures
    c.peek_at.ensures))

pub returns-in-None : goal.returns-in-None
returns-in-None g c =
    let inside : PlayoutsOf = record { renews = c.self.inside.renews; sources = c.self.inside.table.entries } in
    let at : lookup (same_key c.key_of.result) inside.sources ≡ None =
    sym c.get.ensures.value ∙ ap option_copied c.in-None.is in
    subst (λ (p : PlayoutsOf). ShowsOf p c.args.source c.args.address.now c.args.rate c.fill.new.self 0) c.self.view_is
    (shown_none inside c.args.source c.args.address.now c.args.rate c.fill.new.self
    (ap (λ (k : SourceKey). lookup (same_key k) inside.sources) (sym c.key_of.ensures) ∙ at)
    (λ i lt.
    ap (λ (xs : List ℤ). get_or xs i (pos 0)) (c.fill.ensures.after (λ y h. h))
    ∙ get_or-replicate (length c.args.out.now) i (pos 0) (pos 0) (omega (arith, lt, c.fill.ensures.len))))
