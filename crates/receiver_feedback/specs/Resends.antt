-- Which packets are sent again (own; generic NACKs, RFC 4585 section 6.2.1, ask for them).
use Rattle.std.specs.Prelude.{ℕ, not, nat_eq, List, [], ◌∷◌, filter, Option, None, Some}
use Rattle.std.specs.List.{filter_map}
use Rattle.rtp_codec.specs.declared.address.Address.{Address}
use Rattle.desk_rows.specs.Desk.{Desk}
use Rattle.retransmit.specs.SentPacket.{SentPacket}
use Rattle.retransmit.specs.Window.{resend_of}
use Rattle.topology.specs.Looking.{member_from}

-- each number at its first place: the first one, and of what follows each other number at its first place
abbrev pub firsts : List ℕ → List ℕ
firsts [] = []
firsts (n ∷ ns) = n ∷ filter (λ m. not (nat_eq m n)) (firsts ns)

-- the packets of a window that this member at this address is sent again: each number at its first place, where a
-- packet of this number went to it
abbrev pub resends_to : Option ℕ → Address → List ℕ → List SentPacket → List SentPacket
resends_to None address numbers window = []
resends_to (Some member) address numbers window =
    filter_map (λ n. resend_of n record { member = member; address = address } window) (firsts numbers)

-- the packets of a window that are sent again to who asks for these numbers from an address: the member that is there
-- now
abbrev pub resends : Desk → Address → List ℕ → List SentPacket → List SentPacket
resends d from numbers window = resends_to (member_from d from) from numbers window
