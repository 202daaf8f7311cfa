use Rattle.std.proofs.Common.{◌≡◌, ◌∙◌, ap, sym, subst, List, Some, is_some, OnOk}
use Rattle.std.proofs.lemmas.Result.{on_ok_weaker, on_err_weaker}
use Rattle.std.proofs.lemmas.Map.Steps.{set_value_same}
use Rattle.std.specs.Map.{lookup, set_value}
use Rattle.std.specs.Option.{option_copied_mut}
use Rattle.playout.specs.declared.many.SourceKey.{SourceKey}
use Rattle.playout.specs.Playouts.{PlayoutsOf, PutOf, HasAlso}
use Rattle.playout.specs.inner.Holds.{SourceOf}
use Rattle.playout.proofs.EachSource.{same_key, put_kept}
use Rattle.playout.proofs.many.Playouts.put.Goals as goal

pub returns-in-Some-clause-has : goal.returns-in-Some-clause-has
returns-in-Some-clause-has g c =
    let renews = c.self.inside.renews in
    let es = c.self.inside.table.entries in
    let w = c.put_into.new.source in
    let fs = (c.get_mut.follows.lender w).entries in
    let block = c.args.block in
    let at : lookup (same_key c.key_of.result) es ≡ Some c.in-Some.kept.now =
    sym c.get_mut.ensures.value ∙ ap option_copied_mut c.in-Some.is in
    let updates = (c.get_mut.follows.holds w).3 (ap is_some at) in
    on_ok_weaker c.put_into.result (λ put.
    subst
    (λ (old : PlayoutsOf).
    HasAlso old (record { renews = renews; sources = fs })
    (PutOf c.args.source c.args.address.now block.rate block.ts block.samples.now))
    c.self.view_is
    (put_kept renews es fs c.args.source c.args.address.now c.key_of.result c.key_of.ensures block.rate block.ts
    block.samples.now w updates.0 c.in-Some.kept.now at put))
    c.put_into.ensures.put

pub returns-in-Some-clause-err : goal.returns-in-Some-clause-err
returns-in-Some-clause-err g c =
    let renews = c.self.inside.renews in
    let es = c.self.inside.table.entries in
    let at : lookup (same_key c.key_of.result) es ≡ Some c.in-Some.kept.now =
    sym c.get_mut.ensures.value ∙ ap option_copied_mut c.in-Some.is in
    on_err_weaker c.put_into.result (λ same.
    ap (λ (sources : List (SourceKey × SourceOf)).
    (let p : PlayoutsOf = record { renews = renews; sources = sources } in p))
    ((c.get_mut.follows.holds c.put_into.new.source).0
    ∙ ap (λ (w : SourceOf). set_value (same_key c.key_of.result) es w) same
    ∙ set_value_same (same_key c.key_of.result) es c.in-Some.kept.now at)
    ∙ c.self.view_is)
    c.put_into.ensures.err

pub returns-in-None-clause-has : goal.returns-in-None-clause-has
returns-in-None-clause-has g c =
    let block = c.args.block in
    subst (λ (old : PlayoutsOf).
    OnOk c.begin.result
    (HasAlso old c.begin.new.self (PutOf c.args.source c.args.address.now block.rate block.ts block.samples.now)))
    ((λ i. record { renews = c.self.inside.renews; sources = (c.get_mut.follows.holds-at-none i).entries })
    ∙ c.self.view_is)
    c.begin.ensures.has
