use Rattle.desk_http.proofs.EditLemmas.{makes-text}
use Rattle.desk_http.proofs.laws.edits_make_texts.Goals as goal

pub returns : goal.returns
returns c = makes-text
