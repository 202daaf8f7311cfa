use Rattle.desk_rows.specs.Desk.{blank}
use Rattle.x_tests_desk.proofs.crowd.sixteen_operators_make_one_legal_log.Given as goal

abbrev pub ghosts-crowd-H-DeskBrand : goal.ghosts-crowd-H-DeskBrand
ghosts-crowd-H-DeskBrand g a =
    record { cells = a.log.now; publisher = a.names.publisher; start = blank 1; seats = a.names.ledger.parts }

abbrev pub ghosts-crowd-H-Ledger : goal.ghosts-crowd-H-Ledger
ghosts-crowd-H-Ledger g a = record { name = a.names.ledger.name; parts = a.names.ledger.parts }
