use Rattle.std.proofs.Common.{sym, ◌∙◌, rules, tests, bytes_eq}
use Rattle.std.proofs.lemmas.Iterator.{YieldsList-from_slice}
use Rattle.std.proofs.lemmas.Iterator.Search.{position_from_yields_List}
use Rattle.desk_http.proofs.ReadingLemmas.{position_map}
use Rattle.desk_http.proofs.reading.word_place.Goals as goal

pub returns : goal.returns
returns c =
    position_from_yields_List (λ other. bytes_eq other.now c.args.word.now) _ _ c.position.result c.position.ensures.ran
    (YieldsList-from_slice _ c.iter.ensures.rest) (λ x b q k. search (rules, tests))
    ∙ sym (position_map (λ other. bytes_eq other c.args.word.now) (λ x. x.now) c.args.words.now)
