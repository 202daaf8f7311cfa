use Rattle.desk_rows.specs.Desk.{blank}
use Rattle.x_bench.proofs.crowd.at_full_desk.Given as goal

abbrev pub ghosts-by_sixteen-H-DeskBrand : goal.ghosts-by_sixteen-H-DeskBrand
ghosts-by_sixteen-H-DeskBrand g a =
    record { cells = a.log.now; publisher = a.names.publisher; start = blank 1; seats = a.names.ledger.parts }

abbrev pub ghosts-by_sixteen-H-Ledger : goal.ghosts-by_sixteen-H-Ledger
ghosts-by_sixteen-H-Ledger g a = record { name = a.names.ledger.name; parts = a.names.ledger.parts }
