use Rattle.desk_rows.specs.Desk.{blank}
use Rattle.x_tests_desk.proofs.full_log.a_log_takes_all_its_calls.Given as goal

abbrev pub ghosts-scene-H-DeskBrand : goal.ghosts-scene-H-DeskBrand
ghosts-scene-H-DeskBrand g a =
    record { cells = a.log.now; publisher = a.names.publisher; start = blank 1; seats = a.names.ledger.parts }

abbrev pub ghosts-scene-H-Ledger : goal.ghosts-scene-H-Ledger
ghosts-scene-H-Ledger g a = record { name = a.names.ledger.name; parts = a.names.ledger.parts }
