-- The window of an outgoing stream: which packets can be sent again, and to whom (own; generic NACKs, RFC 4585 section
-- 6.2.1, ask for them).
use Rattle.std.specs.Prelude.{◌≡◌, ℕ, ◌-◌, Bool, ◌&&◌, nat_eq, List, [], ◌∷◌, length, drop, find, Option, None, IfSome}
use Rattle.std.specs.List.{last_or}
use Rattle.rtp_codec.specs.Address.{same_address}
use Rattle.rtp_codec.specs.Sequence.{next}
use Rattle.retransmit.specs.declared.owner.Owner.{Owner}
use Rattle.retransmit.specs.SentPacket.{SentPacket}

-- how many packets can be sent again (own)
abbrev pub window_size : ℕ
window_size = 512

-- the last packets of those that were sent, so many of them
abbrev pub latest : ℕ → List SentPacket → List SentPacket
latest n sent = drop (length sent - n) sent

-- one member with one address
abbrev pub same_owner : Owner → Owner → Bool
same_owner a b = nat_eq a.member b.member && same_address a.address b.address

-- the packet has this number and went to this owner
abbrev pub is_for : ℕ → Owner → SentPacket → Bool
is_for number owner p = nat_eq p.number number && same_owner p.owner owner

-- the packet that a number and an owner lead to
abbrev pub resend_of : ℕ → Owner → List SentPacket → Option SentPacket
resend_of number owner window = find (is_for number owner) window

-- The packet's number is the one behind the last packet's, where there is one.
abbrev pub MayFollow : List SentPacket → SentPacket → Type 0
MayFollow sent p = IfSome (last_or None sent) (λ last. p.number ≡ next last.number)

-- The packets are numbered one after the other, the first of them behind this number.
abbrev pub GoOn : ℕ → List SentPacket → Type 0
GoOn number [] = Unit {0}
GoOn number (p ∷ ps) = (p.number ≡ next number) × GoOn p.number ps

-- The packets are numbered one after the other.
abbrev pub AreInARow : List SentPacket → Type 0
AreInARow [] = Unit {0}
AreInARow (p ∷ ps) = GoOn p.number ps
