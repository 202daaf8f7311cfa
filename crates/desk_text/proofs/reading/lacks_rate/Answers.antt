use Rattle.std.proofs.Common.{sym, ◌∙◌}
use Rattle.desk_text.specs.Words.{words_in}
use Rattle.desk_text.proofs.Cuts.{only_one}
use Rattle.desk_text.proofs.reading.lacks_rate.Goals as goal

pub returns-in-AddRoom-clause-lacking : goal.returns-in-AddRoom-clause-lacking
returns-in-AddRoom-clause-lacking c is =
    let one = only_one (words_in c.args.words) (sym c.is_one_word.ensures ∙ is) in (one.0, c.in-AddRoom.is, one.1)
