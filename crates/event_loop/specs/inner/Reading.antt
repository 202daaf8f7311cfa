-- What one read of a round does (own).
use Rattle.std.specs.Prelude.{◌≡◌, ℕ, Bool, true, false, List, [], ◌∷◌}
use Rattle.desk_rows.specs.Desk.{Desk}
use Rattle.media_front.specs.Fronts.{Arrival}
use Rattle.event_loop.specs.Came.{other, nothing}
use Rattle.event_loop.specs.Turns.{Turn, passed, took}
use Rattle.event_loop.specs.declared.state.ReadTurn.{ReadTurn}
use Rattle.event_loop.specs.declared.state.ReadTurn.TheVariants as taken
use Rattle.event_loop.specs.declared.inlet.Read.{Read}
use Rattle.event_loop.specs.declared.inlet.Read.TheVariants.{Datagram, Other, Nothing}

-- Something was read, and these turns dealt with it, or nothing waited.
abbrev pub IsReadOnce : (List Turn → Type 0) → Bool → List Turn → Type 0
IsReadOnce Is true turns = Is turns
IsReadOnce Is false turns = turns ≡ passed nothing ∷ []

-- whether something was read
abbrev pub is_something : Read → Bool
is_something (Datagram from octets) = true
is_something Other = true
is_something Nothing = false

-- What a front did at a read: it took a datagram in at these rows, read something else, or nothing waited.
abbrev pub IsTakenBy : Desk → ReadTurn → List Turn → Type 0
IsTakenBy desk (taken.Datagram received ended octets) turns =
    (late : Bool) × (arrival : Arrival) × (arrival.desk ≡ desk) × (received.from ≡ arrival.from)
    × (received.moment ≡ arrival.moment) × (turns ≡ took late arrival received.outcome ended ∷ [])
IsTakenBy desk taken.Other turns = turns ≡ passed other ∷ []
IsTakenBy desk taken.Nothing turns = turns ≡ passed nothing ∷ []

-- how many of the chunk's octets are those of a datagram
abbrev pub octets_taken : ReadTurn → ℕ
octets_taken (taken.Datagram received ended octets) = octets
octets_taken taken.Other = 0
octets_taken taken.Nothing = 0
