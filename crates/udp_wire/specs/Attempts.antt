-- What was tried on a wire (own).
use Rattle.std.specs.Prelude.{◌≡◌, ℕ, Bool, not, List, [], ◌∷◌, ◌++◌, length, map, filter, if◌then◌else◌, Option}
use Rattle.std.specs.List.{flat_map}
use Rattle.std.specs.Option.{option_map}
use Rattle.rtp_codec.specs.declared.address.Address.{Address}
use Rattle.bridge_core.specs.declared.egress.Egress.{Egress}
use Rattle.bridge_core.specs.declared.egress.Egress.TheVariants.{Media, Control, Note}

-- a datagram that was tried, and whether it was sent
pub record Attempt : Type 0 where
  pub to : Address
  pub octets : List ℕ
  pub sent : Bool

-- the datagram of an egress, its address and its octets; a note has none
abbrev pub datagrams_of : {A : Type 0} → Egress A → List (Address × List ℕ)
datagrams_of (Media version item to ssrc number bytes resent_by) = (to, bytes) ∷ []
datagrams_of (Control version item to ssrc bytes) = (to, bytes.items) ∷ []
datagrams_of (Note version item from note) = []

-- to whom it was tried, and which octets
abbrev pub tried_of : Attempt → Address × List ℕ
tried_of attempt = (attempt.to, attempt.octets)

-- how many of them failed
abbrev pub failures : List Attempt → ℕ
failures attempts = length (filter (λ attempt. not attempt.sent) attempts)

-- the attempts with these behind them, where they are known
abbrev pub with_tried : List Attempt → Option (List Attempt) → Option (List Attempt)
with_tried tried attempts = option_map (λ before. before ++ tried) attempts

-- the attempts grew by the datagram of each egress, in order, and this many of them failed
abbrev pub GrewBy : {A : Type 0} → List (Egress A) → Option (List Attempt) → Option (List Attempt) → ℕ → Type 0
GrewBy egresses old new failed =
    (tried : List Attempt) × (new ≡ with_tried tried old) × (map tried_of tried ≡ flat_map datagrams_of egresses)
    × (failed ≡ failures tried)

-- the attempts grew by this one datagram, and this many failed
abbrev pub Tried : Address → List ℕ → Option (List Attempt) → Option (List Attempt) → ℕ → Type 0
Tried to octets old new failed =
    (sent : Bool) × (new ≡ with_tried (record { to = to; octets = octets; sent = sent } ∷ []) old)
    × (failed ≡ (if sent then 0 else 1))
