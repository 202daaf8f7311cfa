use Rattle.std.proofs.Common.{ap, refl, ◌∙◌}
use Rattle.desk_text.specs.Words.{words_in}
use Rattle.desk_text.proofs.RateLemmas.{at_8000, alone_read, alone_fails}
use Rattle.desk_text.proofs.reading.read_fields.Goals as goal

pub returns-in-Err-clause-values : goal.returns-in-Err-clause-values
returns-in-Err-clause-values c =
    alone_fails c.in-Err.fault c.args.place c.args.name (words_in c.args.words)
    (c.lacks_rate.ensures.lacking c.if-lacks_rate.true) c.in-Err.ensures.values

pub returns-in-Ok-clause-values : goal.returns-in-Ok-clause-values
returns-in-Ok-clause-values c =
    alone_read c.args.place c.args.name (words_in c.args.words) (c.lacks_rate.ensures.lacking c.if-lacks_rate.true)
    ∙ (ap at_8000 c.in-Ok.ensures.values ∙ rw c.push.ensures.items refl)
