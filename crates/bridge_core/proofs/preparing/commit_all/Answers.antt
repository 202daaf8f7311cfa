use Rattle.std.proofs.Common.{◌≡◌, List, [], length, sym, ap, subst, ◌∙◌, arith}
use Rattle.std.specs.Vec.Iter.{into_iter_items}
use Rattle.std.proofs.lemmas.List.{nil_from_length}
use Rattle.topology.specs.Receivers.{AreDistinct}
use Rattle.bridge_core.specs.LaneState.{stream_at}
use Rattle.bridge_core.specs.inner.Readies.{ReadyOf, AllFit, receivers_of, kept_after}
use Rattle.bridge_core.proofs.Readies.{still_fit}
use Rattle.bridge_core.proofs.preparing.commit_all.Goals as goal

pub loop-one-preserved : goal.loop-one-preserved
loop-one-preserved g c =
    let steps = c.in-Some.ensures.steps.0 in
    let left = into_iter_items c.next.new.self in
    let inv = c.loop-one.invariant in
    let one = c.in-Some.one in
    let apart = subst (λ (rs : List ReadyOf). AreDistinct (receivers_of rs)) steps inv.apart in
    let fit = subst (λ (rs : List ReadyOf). AllFit c.loop-one.table.entries rs) steps inv.fit in
    record {
      streams = λ k.
          ap (kept_after k left) (c.commit_one.ensures.streams k)
          ∙ ap (λ rs. kept_after k rs (stream_at k c.loop-one.table.entries)) (sym steps)
          ∙ inv.streams k;
      apart = apart.1;
      fit =
          still_fit c.loop-one.table.entries c.commit_one.new.table.entries one left apart.0
          c.commit_one.ensures.streams
          fit.1;
      capacity = omega (arith, ap length steps, c.commit_one.ensures.spare);
    }

pub returns : goal.returns
returns g c k =
    let none : into_iter_items c.loop-one.one-iterator ≡ [] =
    nil_from_length _ (let e = c.in-None.ensures.steps.0 in let ok = c.loop-one.one-iterator.rest.ok in omega arith) in
    sym (ap (λ rs. kept_after k rs (stream_at k c.loop-one.table.entries)) none) ∙ c.loop-one.invariant.streams k
