use Rattle.std.proofs.Common.{◌+◌, ◌^◌, ◌<◌, ◌++◌, ℕ, List, drop, length, map, ap, subst, sym, ◌∙◌, append_assoc}
use Rattle.std.proofs.Common.{length-append, arith}
use Rattle.std.specs.List.{flat_map, AllByRecursion}
use Rattle.std.proofs.lemmas.List.Concat.{flat_map-cons}
use Rattle.rtcp_codec.specs.Description.{Item, item_octets, TextsFit}
use Rattle.rtcp_codec.specs.View.{item_of}
use Rattle.rtcp_codec.proofs.Lists.{mapped_left}
use Rattle.rtcp_codec.proofs.writing_descriptions.append_items.Goals as goal

pub loop-item-preserved : goal.loop-item-preserved
loop-item-preserved g c =
    let item = item_of c.item-item.result in
    let others = map item_of (drop (c.loop-item.item-index + 1) c.args.items.now) in
    let left =
    mapped_left item_of c.args.items.now c.loop-item.item-index c.item-item.result c.loop-item-test.true
    c.item-item.is in
    let texts = ap (flat_map item_octets) left ∙ flat_map-cons item_octets item others in
    let len = ap length texts ∙ length-append (item_octets item) (flat_map item_octets others) in
    record {
      items =
          ap (λ (l : List ℕ). l ++ flat_map item_octets others) c.append_item.ensures.items
          ∙ append_assoc c.loop-item.out.items (item_octets item) (flat_map item_octets others)
          ∙ ap (λ (l : List ℕ). c.loop-item.out.items ++ l) (sym texts)
          ∙ c.loop-item.invariant.items;
      len = omega (arith, len, c.loop-item.invariant.len, c.append_item.ensures.len);
      capacity = omega arith;
      texts = (subst TextsFit left c.loop-item.invariant.texts).1;
      kinds = λ h.
          c.loop-item.invariant.kinds
          (subst (AllByRecursion (λ (i : Item). i.kind < 2 ^ 8)) (sym left) (c.append_item.ensures.kind, h));
    }
