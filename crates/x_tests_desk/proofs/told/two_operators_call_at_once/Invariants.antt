use Rattle.desk_rows.specs.Desk.{blank}
use Rattle.x_tests_desk.proofs.told.two_operators_call_at_once.Given as goal

abbrev pub ghosts-at_once-H-DeskBrand : goal.ghosts-at_once-H-DeskBrand
ghosts-at_once-H-DeskBrand g a =
    record { cells = a.log.now; publisher = a.names.publisher; start = blank 1; seats = a.names.ledger.parts }

abbrev pub ghosts-at_once-H-Ledger : goal.ghosts-at_once-H-Ledger
ghosts-at_once-H-Ledger g a = record { name = a.names.ledger.name; parts = a.names.ledger.parts }
