-- What holds of the packets of a window and the capacity of its ring.
use Rattle.std.specs.Prelude.{◌≡◌, ℕ, ◌≤◌, List, length}
use Rattle.retransmit.specs.SentPacket.{SentPacket}
use Rattle.retransmit.specs.Window.{window_size, AreInARow}

-- The ring has the capacity for all packets that can be sent again, and they are numbered one after the other.
pub record IsSound (window : List SentPacket) (capacity : ℕ) : Type 0 where
  pub capacity_is : capacity ≡ window_size
  pub few : length window ≤ window_size
  pub in_a_row : AreInARow window
