-- How a gate stands to an epoch.
use Rattle.std.specs.Prelude.{◌≡◌, ℕ, ◌+◌, ◌≤◌, true, List, Option, None}
use Rattle.frame_gate.specs.Packets.{NumberedPacket}
use Rattle.frame_gate.specs.Frame.{WholeFrame}
use Rattle.frame_gate.specs.declared.walk.Walk.{Walk}
use Rattle.frame_gate.specs.inner.Walks.{Stands}
use Rattle.frame_gate.specs.Epochs.{Epoch, gate_size, pieces, packet_at}

-- The walk has come as far as the epoch's run goes, and `at` finds what was taken from next on, which lies in the gate.
pub record Tied (at : ℕ → Option NumberedPacket) (given : List WholeFrame) (e : Epoch) (w : Walk)
    (out : List WholeFrame) : Type 0 where
  pub stands : Stands at e.cut given e.earlier (pieces e) w out
  pub agrees : (n : ℕ) → w.next ≤ n → at n ≡ packet_at e.taken n
  pub behind : (n : ℕ) → w.next + gate_size ≤ n → packet_at e.taken n ≡ None

abbrev pub begun_at : ℕ → Walk
begun_at cut = record { next = cut; after = cut; first = true; stamp = None }
