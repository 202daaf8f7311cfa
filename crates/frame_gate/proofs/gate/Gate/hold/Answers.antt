use Rattle.std.proofs.Common.{◌≡◌, ℕ, ◌%◌, max, List, Option, Some, length, set, refl, sym, ap, ◌∙◌, subst, arith}
use Rattle.std.specs.Prelude.{unwrap_or, vec_len}
use Rattle.std.specs.Vec.{with_item, with_items}
use Rattle.std.proofs.lemmas.List.{with_items_is}
use Rattle.frame_gate.specs.Packets.{NumberedPacket}
use Rattle.frame_gate.specs.inner.Cells.{MayForget, Forgets}
use Rattle.frame_gate.specs.inner.Kept.{Kept}
use Rattle.frame_gate.proofs.gate.Gate.hold.Goals as goal

pub returns : goal.returns
returns g c =
    let k = c.args.self.now in
    let p = c.args.packet in
    let to = c.args.walk.next in
    let new = c.forget_between.new.cells in
    let same : c.packet.inside.number ≡ p.number = ap (λ (q : NumberedPacket). q.number) c.packet.view_is in
    let cells : c.deref_mut.result.now ≡ set k.cells (p.number % 256) (Some p) =
    c.deref_mut.ensures.value
    ∙ ap (λ (cs : List (Option NumberedPacket)). set cs (c.packet.inside.number % 256) (Some p))
    (ap (λ (x : Kept). x.cells) c.self.view_is)
    ∙ ap (λ n. set k.cells (n % 256) (Some p)) same in
    let from : c.self.inside.walk.next ≡ k.walk.next = ap (λ (x : Kept). x.walk.next) c.self.view_is in
    let most : unwrap_or c.self.inside.greatest 0 ≡ unwrap_or k.greatest 0 =
    ap (λ (x : Kept). unwrap_or x.greatest 0) c.self.view_is in
    let greatest : c.max.result ≡ max (unwrap_or k.greatest 0) p.number =
    omega (arith, c.max.ensures, c.unwrap_or.ensures, most, same) in
    let vec = with_item c.self.inside.cells (c.packet.inside.number % 256) (Some p) in
    let long : length new ≡ vec_len vec = c.forget_between.ensures.len ∙ sym c.self.invariant.0 in
    let whole : new ≡ (with_items vec new).items = sym (with_items_is vec new long) in
    record {
      walk_is = refl;
      greatest = ap Some greatest;
      others =
          subst (MayForget to (set k.cells (p.number % 256) (Some p))) whole
          (subst (λ (cs : List (Option NumberedPacket)). MayForget to cs new) cells c.forget_between.ensures.others);
      gone =
          subst (Forgets k.walk.next to (set k.cells (p.number % 256) (Some p))) whole
          (subst (λ (n : ℕ). Forgets n to (set k.cells (p.number % 256) (Some p)) new) from
          (subst (λ (cs : List (Option NumberedPacket)). Forgets c.self.inside.walk.next to cs new) cells
          c.forget_between.ensures.gone));
    }
