use Rattle.desk_edit.proofs.Words.{sym, ap, ◌∙◌, finds, goes_within}
use Rattle.desk_edit.proofs.going.Going.stream_goes.Goals as goal
use Rattle.desk_edit.proofs.GoingLemmas.{name_goes}

pub returns-in-None : goal.returns-in-None
returns-in-None g c =
    let x = c.args.self.now in
    c.finds_stream.ensures
    ∙ ap (finds (goes_within 2 x.rows.now x.key)) c.look.ensures.found
    ∙ sym (name_goes x.rows.now c.look.ensures.keyed 2 x.key c.args.name)
