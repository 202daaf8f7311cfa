use Rattle.std.proofs.Common.{◌∙◌, drop, ap}
use Rattle.std.proofs.lemmas.List.{drop-drop}
use Rattle.desk_text.specs.Words.{words_of}
use Rattle.operator_lines.proofs.blaming.word_behind.Goals as goal

pub loop-preserved : goal.loop-preserved
loop-preserved c =
    c.behind_next-left.ensures
    ∙ (ap (drop 1) c.loop.invariant ∙ drop-drop 1 c.loop.counter (words_of c.args.line.now))
