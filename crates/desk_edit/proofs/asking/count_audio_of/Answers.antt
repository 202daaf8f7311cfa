use Rattle.desk_edit.proofs.Words.{count_by, ap, ◌∙◌, is_audio_of}
use Rattle.desk_edit.proofs.asking.count_audio_of.Goals as goal
use Rattle.desk_edit.proofs.Claimed.{audio_of_members_sources}

pub returns-clause-count : goal.returns-clause-count
returns-clause-count g c =
    c.count_these_of.ensures
    ∙ ap (count_by (is_audio_of c.args.member)) c.others_of.ensures.rows
    ∙ audio_of_members_sources c.args.rows.now c.args.member
