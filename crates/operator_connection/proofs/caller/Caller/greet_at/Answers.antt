use Rattle.std.proofs.Common.{refl}
use Rattle.operator_connection.proofs.caller.Caller.greet_at.Goals as goal

pub returns : goal.returns
returns g c = (
  c.read_without_seat.new.self.connection,
  c.read_without_seat.ensures,
  (c.write.new.self.connection, c.write.ensures, refl),
)
