use Rattle.std.proofs.Common.{◌≡◌, ◌∙◌, List, length, sym, ap, subst, rules}
use Rattle.operator_desk.specs.Entry.{EntryOf}
use Rattle.operator_desk.specs.LegalLogs.{IsLegal}
use Rattle.operator_desk.specs.Seats.{SeatOf}
use Rattle.operator_desk.proofs.TokenLemmas.{length-shown}
use Rattle.operator_desk.proofs.seat.Seat.has_seen.Goals as goal

pub returns-clause-count : goal.returns-clause-count
returns-clause-count g c =
    let seen = c.self.inside.seen.items in
    let count : c.len.result ≡ length seen = search rules in
    count ∙ (sym (length-shown seen) ∙ ap (λ (s : SeatOf). length s.seen) c.self.view_is)

pub returns-clause-legal : goal.returns-clause-legal
returns-clause-legal g c =
    subst (λ (log : List EntryOf). IsLegal g.H.DeskBrand.start log) (ap (λ (s : SeatOf). s.seen) c.self.view_is)
    c.self.invariant.1
