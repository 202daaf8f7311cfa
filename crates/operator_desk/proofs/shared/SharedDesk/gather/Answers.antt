use Rattle.std.proofs.Common.{List, sym, subst}
use Rattle.std.specs.List.{All}
use mathlib.Core.List.{IsPrefix}
use Rattle.operator_desk.specs.Entry.{EntryOf}
use Rattle.operator_desk.specs.Seats.{SeatOf}
use Rattle.operator_desk.proofs.shared.SharedDesk.gather.Goals as goal

pub returns-in-Ok-clause-begins : goal.returns-in-Ok-clause-begins
returns-in-Ok-clause-begins g c =
    subst (λ (l : List EntryOf). All (λ (s : SeatOf). IsPrefix s.seen l) c.args.seats.items) (sym c.in-Ok.ensures.copy)
    c.settle.ensures.begins
