use Rattle.std.proofs.Common.{◌≡◌, ℕ, List, Option, length, sym, ap, ◌∙◌, subst}
use Rattle.std.specs.Prelude.{vec_len}
use Rattle.std.specs.Vec.{with_items}
use Rattle.std.proofs.lemmas.List.{with_items_is}
use Rattle.frame_gate.specs.Packets.{NumberedPacket}
use Rattle.frame_gate.specs.inner.Cells.{MayForget, Forgets}
use Rattle.frame_gate.specs.inner.Kept.{Kept, PreparedCutsOf}
use Rattle.frame_gate.proofs.gate.Gate.give_up.Goals as goal

pub returns-clause-gate : goal.returns-clause-gate
returns-clause-gate g c =
    let k = c.args.self.now in
    let old = c.prepared.inside.walk.next in
    let to = c.args.prepared.walk.next in
    let new = c.forget_between.new.cells in
    let cells : c.deref_mut.result.now ≡ k.cells =
    c.deref_mut.ensures.value ∙ ap (λ (x : Kept). x.cells) c.self.view_is in
    let from : c.self.inside.walk.next ≡ k.walk.next = ap (λ (x : Kept). x.walk.next) c.self.view_is in
    let same : old ≡ to = ap (λ (r : PreparedCutsOf). r.walk.next) c.prepared.view_is in
    let vec = c.self.inside.cells in
    let long : length new ≡ vec_len vec = c.forget_between.ensures.len ∙ sym c.self.invariant.0 in
    let whole : new ≡ (with_items vec new).items = sym (with_items_is vec new long) in
    record {
      walk_is = ap (λ (r : PreparedCutsOf). r.walk) c.prepared.view_is;
      greatest = ap (λ (x : Kept). x.greatest) c.self.view_is;
      others =
          subst (MayForget to k.cells) whole
          (subst (λ (n : ℕ). MayForget n k.cells new) same
          (subst (λ (cs : List (Option NumberedPacket)). MayForget old cs new) cells c.forget_between.ensures.others));
      gone =
          subst (Forgets k.walk.next to k.cells) whole
          (subst (λ (n : ℕ). Forgets k.walk.next n k.cells new) same
          (subst (λ (n : ℕ). Forgets n old k.cells new) from
          (subst (λ (cs : List (Option NumberedPacket)). Forgets c.self.inside.walk.next old cs new) cells
          c.forget_between.ensures.gone)));
    }
