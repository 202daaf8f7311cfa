use Rattle.desk_rows.specs.Desk.{blank}
use Rattle.x_simulation.proofs.scene.played.Given as goal

abbrev pub ghosts-begin-H-DeskBrand : goal.ghosts-begin-H-DeskBrand
ghosts-begin-H-DeskBrand g a = record {
  cells = a.log.now;
  publisher = a.names.publisher;
  start = blank 77;
  seats = a.names.ledger.parts;
}

abbrev pub ghosts-begin-H-Ledger : goal.ghosts-begin-H-Ledger
ghosts-begin-H-Ledger g a = record { name = a.names.ledger.name; parts = a.names.ledger.parts }
