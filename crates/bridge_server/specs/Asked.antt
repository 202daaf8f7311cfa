-- What an operator is told of what a bridge counts, as of the moment at which it asks (own).
use Rattle.std.specs.Prelude.{◌≡◌, ℕ, List}
use Rattle.bridge_stats.specs.declared.others.Seats.{Seats}
use Rattle.bridge_stats.specs.declared.others.SocketRow.{SocketRow}
use Rattle.bridge_monitor.specs.Told.{TellsCounts}

-- The octets are the lines of what a bridge counts, with these buffers and these seats. How many datagrams the system
-- has dropped is what it told when it was asked.
pub record TellsCountsNow (receive send : ℕ) (in_use : Seats) (text : List ℕ) : Type 0 where
  pub socket : SocketRow
  pub receive_buffer : socket.receive_buffer ≡ receive
  pub send_buffer : socket.send_buffer ≡ send
  pub counts : TellsCounts socket in_use text
