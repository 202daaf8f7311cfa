-- Packets as they come to a gate, with their extended sequence numbers (RFC 3550 section A.1).
use Rattle.std.specs.Prelude.{ℕ, ℤ, pos, neg_ℤ, ◌^◌, ◌+ℤ◌, ◌-ℤ◌, ◌≤ℤ◌, ◌<ℤ◌, nat_abs, Bool, List}
use Rattle.frame_gate.specs.Frame.{SourcePacket}

-- what a gate takes of an RTP packet
pub record GatePacket : Type 0 where
  pub marker : Bool
  pub pt : ℕ
  pub ts : ℕ
  pub payload : List ℕ

-- a packet with its place in the epoch
pub record NumberedPacket : Type 0 where
  pub number : ℕ
  pub marker : Bool
  pub pt : ℕ
  pub ts : ℕ
  pub payload : List ℕ

-- the least extended number is -65536: a packet may come from before the first wrap (own)
abbrev pub below : ℤ
below = pos 65536

-- An extended number is at most one wrap below 0, and below 2^62 by less than one wrap over (own).
abbrev pub IsExt : ℤ → Type 0
IsExt ext = (neg_ℤ below ≤ℤ ext) × (ext <ℤ (pos (2 ^ 62) +ℤ below))

-- Numbers are extended numbers counted from the least one.
abbrev pub number_of : ℤ → ℕ
number_of ext = nat_abs (ext +ℤ below)

-- the extended number of a number
abbrev pub ext_of : ℕ → ℤ
ext_of number = pos number -ℤ below

-- a packet under its extended number
abbrev pub numbered : ℤ → GatePacket → NumberedPacket
numbered ext p = record { number = number_of ext; marker = p.marker; pt = p.pt; ts = p.ts; payload = p.payload }

-- the packet as its frame has it
abbrev pub frame_packet : NumberedPacket → SourcePacket
frame_packet p = record { ext = ext_of p.number; marker = p.marker; pt = p.pt; payload = p.payload }
