-- What was sent in the examples: packets without octets, to member 1 at port 7.
use Rattle.std.specs.Prelude.{ℕ, pos, ◌+◌, ◌%◌, ◌^◌, zero, suc, List, [], ◌∷◌}
use Rattle.retransmit.specs.declared.owner.Owner.{Owner}
use Rattle.retransmit.specs.SentPacket.{SentPacket}

-- a member at a port of this machine
abbrev pub owner : ℕ → ℕ → Owner
owner member port = record { member = member; address = record { ip = 127 ∷ 0 ∷ 0 ∷ 1 ∷ []; port = port } }

abbrev pub packet : ℕ → SentPacket
packet number = record {
  number = number;
  owner = owner 1 7;
  version = 1;
  item = 1;
  source = 5;
  address = (owner 2 8).address;
  epoch = 1;
  ext = pos 100;
  bytes = [];
}

-- so many packets, the first one under this number
abbrev pub packets : ℕ → ℕ → List SentPacket
packets first zero = []
packets first (suc n) = packet (first % 2 ^ 16) ∷ packets (first + 1) n
