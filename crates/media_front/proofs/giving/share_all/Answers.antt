use Rattle.std.proofs.Common.{◌∙◌, ◌++◌, ◌∷◌, [], List, map, length, ap, sym, arith, append_assoc}
use Rattle.std.proofs.lemmas.List.{map-append}
use Rattle.std.specs.Vec.Iter.{into_iter_items}
use Rattle.std.specs.declared.alloc.Global.{Global}
use Rattle.media_items.specs.Inputs.{Input, input_of}
use Rattle.media_items.specs.declared.item.Item.{Item}
use Rattle.media_front.specs.inner.Shares.{input_shared}
use Rattle.media_front.proofs.giving.share_all.Goals as goal

pub loop-item-preserved : goal.loop-item-preserved
loop-item-preserved c =
    let k = c.loop-item.invariant in
    let next = c.in-Some.ensures.steps in
    let done = c.loop-item.shared.items in
    let rest = map input_of (into_iter_items c.next.new.self) in
    let one = c.in_ok-new.field-0 in
    record {
      inputs = ap (λ xs. map input_shared xs ++ rest) c.push_reserved.ensures.items
          ∙ (ap (λ (is : List Input). is ++ rest) (map-append input_shared done (one ∷ []))
          ∙ (append_assoc (map input_shared done) (input_shared one ∷ []) rest
          ∙ (ap (λ (item : Item Global). map input_shared done ++ input_of item ∷ rest) c.in_ok-new.ensures.ok
          ∙ (ap (λ (items : List (Item Global)). map input_shared done ++ map input_of items) (sym next.0)
          ∙ k.inputs))));
      fits = omega (arith, k.fits, ap length next.0, c.push_reserved.ensures.len, c.push_reserved.ensures.capacity);
    }
