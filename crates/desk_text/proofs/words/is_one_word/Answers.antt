use Rattle.desk_text.proofs.Cuts.{one_word}
use Rattle.desk_text.proofs.words.is_one_word.Goals as goal

pub returns-in-Some : goal.returns-in-Some
returns-in-Some c =
    rw c.in-Some.is (one_word c.in-Some.text.now c.first_word.result.0.now c.first_word.result.1 c.is_none.result
    c.first_word.ensures.words c.is_none.ensures)
