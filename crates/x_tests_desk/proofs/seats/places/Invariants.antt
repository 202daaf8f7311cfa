use Rattle.desk_rows.specs.Desk.{blank}
use Rattle.x_tests_desk.proofs.seats.places.Given as goal

abbrev pub ghosts-opened-H-DeskBrand : goal.ghosts-opened-H-DeskBrand
ghosts-opened-H-DeskBrand g a =
    record { cells = a.log.now; publisher = a.names.publisher; start = blank 1; seats = a.names.ledger.parts }

abbrev pub ghosts-opened-H-Ledger : goal.ghosts-opened-H-Ledger
ghosts-opened-H-Ledger g a = record { name = a.names.ledger.name; parts = a.names.ledger.parts }
