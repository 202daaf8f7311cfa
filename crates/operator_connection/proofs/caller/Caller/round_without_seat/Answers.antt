use Rattle.std.proofs.Common.{sym, ◌∙◌}
use Rattle.operator_connection.proofs.CallerLemmas.{alone_cut, alone_whole}
use Rattle.operator_connection.proofs.caller.Caller.round_without_seat.Goals as goal

pub returns-in-Some : goal.returns-in-Some
returns-in-Some g c =
    let b = c.begin.ensures in
    (b.0, alone_whole b.0 c.in-Some.now _ _ _ b.2 (sym b.1 ∙ c.in-Some.is) c.greet_at.ensures)

pub returns-in-None : goal.returns-in-None
returns-in-None g c =
    let b = c.begin.ensures in (b.0, alone_cut b.0 _ _ b.2 (sym b.1 ∙ c.in-None.is))
