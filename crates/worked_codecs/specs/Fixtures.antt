-- What the examples have: packets of one octet, and frames of them.
use Rattle.std.specs.Prelude.{ℕ, ℤ, pos, Bool, List, map}
use Rattle.std.specs.List.{range_with_len}
use Rattle.frame_gate.specs.Packets.{GatePacket}
use Rattle.frame_gate.specs.Frame.{SourcePacket, WholeFrame}

abbrev pub given : Bool → ℕ → List ℕ → GatePacket
given marker ts payload = record { marker = marker; pt = 100; ts = ts; payload = payload }

abbrev pub sent : ℤ → Bool → List ℕ → SourcePacket
sent ext marker payload = record { ext = ext; marker = marker; pt = 100; payload = payload }

abbrev pub frame : ℕ → List SourcePacket → WholeFrame
frame ts packets = record { ts = ts; packets = packets }

-- so many numbers from the first one on
abbrev pub from : ℕ → ℕ → List ℤ
from first count = map pos (range_with_len first count)
