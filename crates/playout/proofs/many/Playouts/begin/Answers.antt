use Rattle.std.proofs.Common.{◌≡◌, ◌∙◌, ap, subst, None}
use Rattle.std.specs.Map.{lookup}
use Rattle.playout.specs.Playouts.{PlayoutsOf, PutOf, playout_at, HasAlso}
use Rattle.playout.proofs.EachSource.{same_key, key_for, put_new}
use Rattle.playout.proofs.many.Playouts.begin.Goals as goal

pub returns-clause-has : goal.returns-clause-has
returns-clause-has g c =
    let es = c.self.inside.table.entries in
    let fs = c.insert.new.self.entries in
    let block = c.args.block in
    let none : lookup (same_key (key_for c.args.source c.args.address.now)) es ≡ None =
    ap (playout_at c.args.source c.args.address.now) c.self.view_is ∙ c.requires.new in
    subst
    (λ (old : PlayoutsOf).
    HasAlso old (record { renews = c.self.inside.renews; sources = fs })
    (PutOf c.args.source c.args.address.now block.rate block.ts block.samples.now))
    c.self.view_is
    (put_new c.self.inside.renews es fs c.args.source c.args.address.now c.key_of.result c.key_of.ensures block.rate
    block.ts block.samples.now c.in_ok-begun.begun c.in_ok-insert.ensures.updates.0
    none c.in_ok-begun.ensures.none c.in_ok-begun.ensures.begun)
