use Rattle.desk_edit.proofs.Words.{sym, ap, ◌∙◌, row_into_room}
use Rattle.desk_edit.proofs.moving.MovedLook.look.Goals as goal
use Rattle.desk_edit.proofs.Moves.{found_moved, keyed_moved}

pub returns-clause-found : goal.returns-clause-found
returns-clause-found g c =
    let x = c.args.self.now in
    c.row_into_room.ensures
    ∙ ap (row_into_room x.member x.room) c.look.ensures.found
    ∙ sym (found_moved x.member x.room x.rows.now c.look.ensures.keyed c.args.key)

pub returns-clause-keyed : goal.returns-clause-keyed
returns-clause-keyed g c = let x = c.args.self.now in keyed_moved x.member x.room x.rows.now c.look.ensures.keyed
