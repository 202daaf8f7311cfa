use Rattle.desk_rows.specs.Desk.{blank}
use Rattle.x_tests_desk.proofs.told.readers_are_told_of_calls.Given as goal

abbrev pub ghosts-are_told-H-DeskBrand : goal.ghosts-are_told-H-DeskBrand
ghosts-are_told-H-DeskBrand g a =
    record { cells = a.log.now; publisher = a.names.publisher; start = blank 1; seats = a.names.ledger.parts }

abbrev pub ghosts-are_told-H-Ledger : goal.ghosts-are_told-H-Ledger
ghosts-are_told-H-Ledger g a = record { name = a.names.ledger.name; parts = a.names.ledger.parts }
