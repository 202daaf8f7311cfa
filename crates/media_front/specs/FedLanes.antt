-- The lanes of a feed, and what they are given (own).
use Rattle.std.specs.Prelude.{◌≡◌, ◌⊎◌, ℕ, ◌+◌, ◌-◌, ◌^◌, min, Bool, false, ◌||◌, if◌then◌else◌, nat_le, List, map}
use Rattle.std.specs.Prelude.{Option, Some, None}
use Rattle.std.specs.List.{AllZip, FoldsTo}
use Rattle.published_desk.specs.Published.{NoticeOf}
use Rattle.media_items.specs.Inputs.{Input, input_of}
use Rattle.media_workers.specs.declared.lane_item.LaneItem.{LaneItem}
use Rattle.media_workers.specs.declared.parcel.Parcel.TheVariants.{Work}
use Rattle.media_workers.specs.Parcels.{item_in}
use Rattle.media_workers.specs.LaneRuns.{LaneNow}
use Rattle.media_workers.specs.Ports.{PortOf, port_of, accept}
use Rattle.media_front.specs.Signals.{is_pressing, many_parcels}

-- a lane of a feed: its port, the notice that its next parcel carries, how many parcels it accepted since its signal
-- was raised last, whether one of these presses, how many it accepted in all, and how many were dropped for it
pub record FedLane (P S : Type 0) : Type 0 where
  pub port : PortOf P S
  pub owed : Option NoticeOf
  pub unsignalled : ℕ
  pub pressed : Bool
  pub given : ℕ
  pub dropped : ℕ

-- one more, as far as 64 bits count
abbrev pub one_more : ℕ → ℕ
one_more count = min (count + 1) (2 ^ 64 - 1)

-- the ports of these lanes
abbrev pub ports_in : {P S : Type 0} → List (FedLane P S) → List (PortOf P S)
ports_in lanes = map (λ x. x.port) lanes

-- these lanes as they were handed in
abbrev pub lanes_in : {P S : Type 0} → List (FedLane P S) → List LaneNow
lanes_in lanes = map (λ x. x.port.lane) lanes

-- The lane was given nothing and is owed nothing.
abbrev pub IsFresh : {P S : Type 0} → FedLane P S → Type 0
IsFresh x =
    x
    ≡ record {
      port = port_of x.port.lane x.port.pace x.port.sink;
      owed = None;
      unsignalled = 0;
      pressed = false;
      given = 0;
      dropped = 0;
    }

-- the lane's next parcel carries this notice
abbrev pub owing_notice : {P S : Type 0} → NoticeOf → FedLane P S → FedLane P S
owing_notice notice x = record x { owed = Some notice }

-- the lane's signal is due: one of the parcels presses, or they are many
abbrev pub is_due : {P S : Type 0} → FedLane P S → Bool
is_due x = x.pressed || nat_le many_parcels x.unsignalled

-- the lane's signal was raised for all that it accepted, if it was due
abbrev pub after_signal : {P S : Type 0} → FedLane P S → FedLane P S
after_signal x = if is_due x then record x { unsignalled = 0; pressed = false } else x

-- the lane accepted this item, in a parcel with the notice that it was owed, and is owed none from then on
abbrev pub accepting : {P S : Type 0} → LaneItem → FedLane P S → FedLane P S
accepting item x =
    record {
      port = accept (Work item x.owed) x.port;
      owed = None;
      unsignalled = one_more x.unsignalled;
      pressed = x.pressed || is_pressing (input_of (item_in item));
      given = one_more x.given;
      dropped = x.dropped;
    }

-- the lane handed a parcel back, which was dropped and counted; it is owed what it was owed
abbrev pub dropping : {P S : Type 0} → FedLane P S → FedLane P S
dropping x = record x { dropped = one_more x.dropped }

-- The lane accepted this input once, or one parcel was dropped for it.
abbrev pub IsFed : {P S : Type 0} → Input → FedLane P S → FedLane P S → Type 0
IsFed input x y = ((item : LaneItem) × (input_of (item_in item) ≡ input) × (y ≡ accepting item x)) ⊎ (y ≡ dropping x)

-- Every lane was given this input.
abbrev pub AreGiven : {P S : Type 0} → List (FedLane P S) → Input → List (FedLane P S) → Type 0
AreGiven old input new = AllZip (IsFed input) old new

-- Every lane was given these inputs, one after another.
abbrev pub AllAreGiven : {P S : Type 0} → List Input → List (FedLane P S) → List (FedLane P S) → Type 0
AllAreGiven inputs old new = FoldsTo AreGiven old inputs new
