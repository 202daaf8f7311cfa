use Rattle.std.proofs.Common.{ap, ◌∙◌}
use Rattle.desk_text.specs.Words.{words_of}
use Rattle.script_text.specs.Requests.{words_request}
use Rattle.script_text.proofs.DeskLaws.{desk_joined}
use Rattle.script_text.proofs.laws.made_lines_are_read.Goals as goal

pub returns : goal.returns
returns c m few fits =
    ap (λ t. words_request (words_of t)) (desk_joined m) ∙ c.desk_lines.ensures.read m.op m.call few fits
