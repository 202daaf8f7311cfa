use Rattle.std.proofs.Common.{refl}
use Rattle.desk_text.proofs.Cuts.{words_cut, words_uncut}
use Rattle.desk_text.proofs.words.first_word.Goals as goal

pub returns-in-None-clause-words : goal.returns-in-None-clause-words
returns-in-None-clause-words c = rw (words_uncut c.args.text.now c.in-None.ensures) refl

pub returns-in-Some-clause-words : goal.returns-in-Some-clause-words
returns-in-Some-clause-words c = rw (words_cut c.args.text.now _ c.in-Some.ensures) refl
