-- What a window shows after all the pushes that it has had.
use Rattle.std.specs.Prelude.{◌≡◌, ℕ, nat_eq, List, [], ◌∷◌, ◌++◌, filter}
use Rattle.retransmit.specs.SentPacket.{SentPacket}
use Rattle.retransmit.specs.Window.{window_size, latest, MayFollow}

-- These packets lead from one window to another, pushed one by one, each where it may follow.
abbrev pub ArePushed : List SentPacket → List SentPacket → List SentPacket → Type 0
ArePushed old [] new = new ≡ old
ArePushed old (p ∷ ps) new = MayFollow old p × ArePushed (latest window_size (old ++ p ∷ [])) ps new

-- the packets of this number
abbrev pub of_number : ℕ → List SentPacket → List SentPacket
of_number number window = filter (λ p. nat_eq p.number number) window
