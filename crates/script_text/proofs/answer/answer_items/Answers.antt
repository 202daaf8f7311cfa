use Rattle.std.proofs.Common.{◌≡◌, ◌+◌, ◌++◌, [], ◌∷◌, List, map, take, ap, sym, subst, ◌∙◌}
use Rattle.std.proofs.lemmas.List.{take_more, take_all, map-append}
use Rattle.media_items.specs.Inputs.{Input, input_of}
use Rattle.script_text.specs.inner.Steps.{HandsItems}
use Rattle.script_text.proofs.BridgeLemmas.{hands_none, hands_more, each_sized}
use Rattle.script_text.proofs.answer.answer_items.Goals as goal

pub loop-item-init : goal.loop-item-init
loop-item-init g c = record { lane = c.requires.lane; hands = hands_none c.args.core.now c.args.out.now.items }

pub answer_item-requires : goal.answer_item-requires
answer_item-requires g c = record {
  lane = c.loop-item.invariant.lane;
  sized =
      each_sized input_of c.args.items.now c.loop-item.item-index c.item-item.result c.requires.sized
      c.loop-item-test.true
      c.item-item.is;
}

pub loop-item-preserved : goal.loop-item-preserved
loop-item-preserved g c =
    let items = c.args.items.now in
    let i = c.loop-item.item-index in
    let item = c.item-item.result in
    let more : take (i + 1) items ≡ take i items ++ item ∷ [] =
    take_more items i item c.loop-item-test.true ∙ ap (λ x. take i items ++ x ∷ []) (sym c.item-item.is) in
    let inputs : map input_of (take (i + 1) items) ≡ map input_of (take i items) ++ input_of item ∷ [] =
    ap (map input_of) more ∙ map-append input_of (take i items) (item ∷ []) in
    record {
      lane = c.in_ok-answer_item.ensures.lane;
      hands =
          subst
          (λ (xs : List Input).
          HandsItems c.args.core.now xs c.answer_item.new.core c.args.out.now.items c.answer_item.new.out.items)
          (sym inputs)
          (hands_more c.args.core.now c.loop-item.core c.answer_item.new.core (map input_of (take i items))
          (input_of item) c.args.out.now.items c.loop-item.out.items c.answer_item.new.out.items
          c.loop-item.invariant.hands c.in_ok-answer_item.ensures.answer);
    }

pub returns-clause-answer : goal.returns-clause-answer
returns-clause-answer g c =
    rw (← take_all c.loop-item.item-index c.args.items.now c.loop-item-test.false) c.loop-item.invariant.hands
