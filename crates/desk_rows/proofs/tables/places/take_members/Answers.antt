use Rattle.desk_rows.specs.laws.Words.{ap, sym, ◌∙◌, arith, take_at, can_take}
use Rattle.desk_rows.proofs.Loops.{take_last, can_take_last}
use Rattle.desk_rows.proofs.tables.places.take_members.Goals as goal

pub remove-requires : goal.remove-requires
remove-requires g c =
    let is = c.in-Some.ensures.cases.0 in
    let last =
    can_take_last c.in-Some.earlier.now c.in-Some.last.now c.loop-last.members.items
    (sym (ap (λ ps. can_take ps c.loop-last.members.items) is) ∙ c.loop-last.invariant.can) in
    omega (arith, last.0)

pub loop-last-preserved : goal.loop-last-preserved
loop-last-preserved g c =
    let is = c.in-Some.ensures.cases.0 in
    let last =
    can_take_last c.in-Some.earlier.now c.in-Some.last.now c.loop-last.members.items
    (sym (ap (λ ps. can_take ps c.loop-last.members.items) is) ∙ c.loop-last.invariant.can) in
    record {
      so_far = c.loop-last.invariant.so_far ∙ ap (λ ps. take_at ps c.loop-last.members.items) is
          ∙ take_last c.in-Some.earlier.now c.in-Some.last.now c.loop-last.members.items
          ∙ ap (take_at c.in-Some.earlier.now) (sym c.remove.ensures.items);
      can = ap (can_take c.in-Some.earlier.now) c.remove.ensures.items ∙ last.1;
      capacity = omega arith;
    }
