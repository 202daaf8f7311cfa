use Rattle.desk_rows.specs.Desk.{blank}
use Rattle.x_tests_desk.proofs.turns.two_operators_call_in_turn.Given as goal

abbrev pub ghosts-two_in_turn-H-DeskBrand : goal.ghosts-two_in_turn-H-DeskBrand
ghosts-two_in_turn-H-DeskBrand g a =
    record { cells = a.log.now; publisher = a.names.publisher; start = blank 1; seats = a.names.ledger.parts }

abbrev pub ghosts-two_in_turn-H-Ledger : goal.ghosts-two_in_turn-H-Ledger
ghosts-two_in_turn-H-Ledger g a = record { name = a.names.ledger.name; parts = a.names.ledger.parts }

abbrev pub ghosts-is_taken-H-DeskBrand : goal.ghosts-is_taken-H-DeskBrand
ghosts-is_taken-H-DeskBrand g a =
    record { cells = a.log.now; publisher = a.names.publisher; start = blank 1; seats = a.names.ledger.parts }

abbrev pub ghosts-is_taken-H-Ledger : goal.ghosts-is_taken-H-Ledger
ghosts-is_taken-H-Ledger g a = record { name = a.names.ledger.name; parts = a.names.ledger.parts }
