use Rattle.std.proofs.Common.{map, take}
use Rattle.media_items.specs.Inputs.{input_of}
use Rattle.script_text.specs.inner.Steps.{HasLane, HandsItems}
use Rattle.script_text.proofs.answer.answer_items.Given as goal

-- the items so far were handed over
abbrev pub invariant-loop-item : goal.invariant-loop-item
invariant-loop-item g l = record {
  lane : HasLane l.core;
  hands : HandsItems l.fn.core (map input_of (take l.item-index l.items)) l.core l.fn.out.items l.out.items;
}
