-- Packets that worked calls make frames of.
use Rattle.std.specs.Prelude.{ℕ, ℤ, Bool, List}
use Rattle.frame_gate.specs.Frame.{SourcePacket}

-- a packet by its number, marker, payload type and payload
abbrev pub packet : ℤ → Bool → ℕ → List ℕ → SourcePacket
packet ext marker pt payload = record { ext = ext; marker = marker; pt = pt; payload = payload }
