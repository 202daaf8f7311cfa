use Rattle.desk_rows.specs.Desk.{blank}
use Rattle.x_bench.proofs.publishing.entries_beside.Given as goal

abbrev pub ghosts-over-H-DeskBrand : goal.ghosts-over-H-DeskBrand
ghosts-over-H-DeskBrand g a =
    record { cells = a.log.now; publisher = a.names.publisher; start = blank 1; seats = a.names.ledger.parts }

abbrev pub ghosts-over-H-Ledger : goal.ghosts-over-H-Ledger
ghosts-over-H-Ledger g a = record { name = a.names.ledger.name; parts = a.names.ledger.parts }
