use Rattle.std.proofs.Common.{◌≡◌, ◌∙◌, ap, sym, subst, suc, Bool, false, true, is_some, ◌<◌, ◌≤◌, slice_get, length}
use Rattle.std.proofs.Common.{Some, add-one, arith}
use Rattle.std.specs.Map.{values_of}
use Rattle.std.specs.Option.{option_copied_mut}
use Rattle.playout.specs.Playouts.{PlayoutsOf, TakeAll, HasAlso}
use Rattle.playout.proofs.EachSource.{HaveTaken, one_taken, as_many, all_taken}
use Rattle.playout.proofs.many.Playouts.take_all.Goals.{in-Some, in_default}
use Rattle.playout.proofs.many.Playouts.take_all.Goals as goal

pub loop-index-preserved : goal.loop-index-preserved
loop-index-preserved g c =
    let now = c.loop-index.self-inside in
    let es = c.args.self.now.sources in
    let n = c.loop-index.index in
    elim c.match-get_index_mut.branch [
      | in-Some w ↦
          let at : slice_get (values_of now.table.entries) n ≡ Some w.in-Some.kept.now =
          sym c.get_index_mut.ensures.value ∙ ap option_copied_mut w.in-Some.is in
          record {
            renews = ap (λ i. i.renews) w.self-inside-is ∙ c.loop-index.invariant.renews;
            taken = subst (λ k. HaveTaken k es c.match-get_index_mut.self-inside.table.entries) (sym (add-one n))
                (subst (λ fs. HaveTaken (suc n) es fs) (sym (ap (λ i. i.table.entries) w.self-inside-is))
                (one_taken n es now.table.entries w.in-Some.kept.now w.tick.new.self c.loop-index.invariant.taken at
                w.tick.ensures));
          }
      | in_default w ↦
          let long : length c.self.inside.table.entries ≡ length es =
          ap (λ (p : PlayoutsOf). length p.sources) c.self.view_is in
          let lt : n < length now.table.entries =
          omega (
            arith,
            c.loop-index-test.true,
            c.len-index-end.ensures.len,
            long,
            as_many n es now.table.entries c.loop-index.invariant.taken,
          ) in
          absurd (let none : false ≡ true = sym (ap is_some w.in_default.is) ∙ c.get_index_mut.ensures.found.1 lt in cc)
    ]

pub returns : goal.returns
returns g c =
    let es = c.args.self.now.sources in
    let long : length c.self.inside.table.entries ≡ length es =
    ap (λ (p : PlayoutsOf). length p.sources) c.self.view_is in
    let all : length es ≤ c.loop-index.index =
    omega (arith, c.loop-index-test.false, c.len-index-end.ensures.len, long) in
    let fs = c.loop-index.self-inside.table.entries in
    subst (λ (renews : Bool). HasAlso c.args.self.now (record { renews = renews; sources = fs }) TakeAll)
    (sym c.loop-index.invariant.renews)
    (all_taken c.args.self.now.renews c.loop-index.index es fs all c.loop-index.invariant.taken)
