use Rattle.desk_rows.specs.Desk.{blank}
use Rattle.x_bench.proofs.calls.at_desk.Given as goal

abbrev pub ghosts-by_one-H-DeskBrand : goal.ghosts-by_one-H-DeskBrand
ghosts-by_one-H-DeskBrand g a =
    record { cells = a.log.now; publisher = a.names.publisher; start = blank 1; seats = a.names.ledger.parts }

abbrev pub ghosts-by_one-H-Ledger : goal.ghosts-by_one-H-Ledger
ghosts-by_one-H-Ledger g a = record { name = a.names.ledger.name; parts = a.names.ledger.parts }
