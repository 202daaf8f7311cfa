use Rattle.std.proofs.Common.{◌∙◌, sym, ap}
use Rattle.udp_table.specs.Words.{behind_word}
use Rattle.udp_table.proofs.WordLemmas.{behind_more}
use Rattle.udp_table.proofs.word.word_at.Goals as goal

pub loop-preserved : goal.loop-preserved
loop-preserved c =
    c.behind_word-rest.ensures
    ∙ (ap behind_word c.loop.invariant ∙ sym (behind_more c.loop.counter c.args.line.now))
