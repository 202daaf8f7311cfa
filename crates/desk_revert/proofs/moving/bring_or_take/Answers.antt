use Rattle.std.proofs.lemmas.List.{nil_from_length}
use Rattle.desk_revert.proofs.Presence.{so_far, told}
use Rattle.desk_revert.proofs.moving.bring_or_take.Goals as goal

pub returns-clause-told : goal.returns-clause-told
returns-clause-told g c =
    so_far c.args.edits.now c.loop-edit.rest.now c.args.key c.loop-edit.moved
    (nil_from_length c.loop-edit.rest.now c.in_default.ensures.cases) c.loop-edit.invariant

pub returns-clause-moved : goal.returns-clause-moved
returns-clause-moved g c d fit =
    told d c.args.edits.now c.loop-edit.rest.now c.args.key c.loop-edit.moved
    (nil_from_length c.loop-edit.rest.now c.in_default.ensures.cases) c.loop-edit.invariant fit
