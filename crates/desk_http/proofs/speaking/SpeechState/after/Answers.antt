use Rattle.std.proofs.Common.{◌∙◌, ◌+◌, min, Bool, if◌then◌else◌, ap}
use Rattle.desk_http.proofs.SpeechLemmas.{next_state}
use Rattle.desk_http.proofs.speaking.SpeechState.after.Goals as goal

pub returns : goal.returns
returns g before is =
    let s = g.args.self in
    next_state s _ g.args.quarter.now before
    (g.row_after-loud.ensures ∙ ap (λ (b : Bool). if b then min 2 (s.loud + 1) else 0) g.is_loud.ensures)
    (g.row_after-quiet.ensures ∙ ap (λ (b : Bool). if b then min 4 (s.quiet + 1) else 0) g.is_quiet.ensures)
    g.speaks_after.ensures is
