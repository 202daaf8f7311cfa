-- Packets that go on where a window ends.
use Rattle.std.specs.Prelude.{◌≡◌, ℕ, ◌≤◌, List, [], ◌∷◌, ◌++◌, length, None, IfSome}
use Rattle.std.specs.List.{last_or}
use Rattle.rtp_codec.specs.Sequence.{next}
use Rattle.retransmit.specs.SentPacket.{SentPacket}
use Rattle.retransmit.specs.Window.{window_size, latest, MayFollow}

-- The number is the one behind the last packet's, where there is one.
abbrev pub Follows : List SentPacket → ℕ → Type 0
Follows window number = IfSome (last_or None window) (λ last. number ≡ next last.number)

-- The packets are numbered one after the other from the first number, and behind them comes the second.
abbrev pub Lead : ℕ → List SentPacket → ℕ → Type 0
Lead first [] behind = behind ≡ first
Lead first (p ∷ ps) behind = (p.number ≡ first) × Lead (next first) ps behind

-- The packets can be kept in this window, one by one.
abbrev pub MayGoOn : List SentPacket → List SentPacket → Type 0
MayGoOn window [] = Unit {0}
MayGoOn window (p ∷ ps) = MayFollow window p × MayGoOn (latest window_size (window ++ p ∷ [])) ps

-- The window has no more packets than can be sent again, and a packet of this number may follow.
pub record IsKept (window : List SentPacket) (number : ℕ) : Type 0 where
  pub few : length window ≤ window_size
  pub follows : Follows window number
