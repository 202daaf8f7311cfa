use Rattle.std.proofs.lemmas.List.Splits.{join_with_byte-slice_split}
use Rattle.desk_text.proofs.Joined.{cut_again, parts_lack}
use Rattle.desk_text.proofs.laws.pieces_join.Goals as goal

pub returns-clause-words : goal.returns-clause-words
returns-clause-words c = join_with_byte-slice_split 32

pub returns-clause-no_space : goal.returns-clause-no_space
returns-clause-no_space c = parts_lack 32

pub returns-clause-only_words : goal.returns-clause-only_words
returns-clause-only_words c = cut_again 32

pub returns-clause-parts : goal.returns-clause-parts
returns-clause-parts c = join_with_byte-slice_split 10

pub returns-clause-no_lf : goal.returns-clause-no_lf
returns-clause-no_lf c = parts_lack 10

pub returns-clause-only_parts : goal.returns-clause-only_parts
returns-clause-only_parts c = cut_again 10
