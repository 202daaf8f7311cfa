use Rattle.desk_edit.proofs.Words.{count_by, ap, ◌∙◌, is_audio_in}
use Rattle.desk_edit.proofs.asking.count_audio_in.Goals as goal
use Rattle.desk_edit.proofs.Claimed.{audio_of_sources}

pub returns-clause-count : goal.returns-clause-count
returns-clause-count g c =
    c.count_audio.ensures
    ∙ ap (count_by (is_audio_in c.args.rows.now c.args.room)) c.others_of.ensures.rows
    ∙ audio_of_sources c.args.rows.now c.args.room
