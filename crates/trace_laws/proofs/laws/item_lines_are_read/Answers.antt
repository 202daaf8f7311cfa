use Rattle.trace_laws.proofs.ItemLaws.{words_read, line_read}
use Rattle.trace_laws.proofs.laws.item_lines_are_read.Goals as goal

pub returns-clause-words : goal.returns-clause-words
returns-clause-words c = words_read

pub returns-clause-line : goal.returns-clause-line
returns-clause-line c = line_read
