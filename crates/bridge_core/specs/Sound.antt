-- What is true of the lanes of every core (own).
use Rattle.std.specs.Prelude.{◌≡◌, ℕ, List, [], length, Some, slice_get}
use Rattle.sender_feedback.specs.Upstream.{Asker}
use Rattle.bridge_core.specs.LaneState.{LaneOf, HasHandled}

-- each lane has its number and the name of the bridge
abbrev pub HavePlaces : List LaneOf → Asker → Type 0
HavePlaces lanes who =
    (lane : ℕ) (state : LaneOf) → slice_get lanes lane ≡ Some state
    → (state.lane ≡ lane) × (state.lanes ≡ length lanes) × (state.who ≡ who)

-- each of these is a lane of so many, has its number and the name of the bridge, and has handled nothing
abbrev pub AreFresh : ℕ → Asker → List LaneOf → Type 0
AreFresh lanes who states =
    (lane : ℕ) (state : LaneOf) → slice_get states lane ≡ Some state
    → (state.lane ≡ lane) × (state.lanes ≡ lanes) × (state.who ≡ who) × HasHandled state []
