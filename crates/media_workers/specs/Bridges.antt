-- A bridge's lanes, how they begin and how they end (own).
use Rattle.std.specs.Prelude.{◌≡◌, ℕ, Bool, List, [], ◌∷◌, length, map, zip, Some, slice_get}
use Rattle.std.specs.declared.alloc.Global.{Global}
use Rattle.rtrb.specs.Ring.{received}
use Rattle.rtrb.specs.declared.consumer.Consumer.{Consumer}
use Rattle.rtrb.specs.declared.AnyItems.{AnyItems}
use Rattle.sender_feedback.specs.Upstream.{Asker}
use Rattle.bridge_core.specs.declared.egress.Egress.{Egress}
use Rattle.bridge_core.specs.LaneState.{HasHandled}
use Rattle.media_workers.specs.declared.lane_end.LaneEnd.{LaneEnd}
use Rattle.media_workers.specs.LaneRuns.{LaneNow, Traffic, Versioned, versioned, Hears, run_end}
use Rattle.media_workers.specs.Ports.{PortOf, port_of, Ended}

-- The lane is that of this place among so many of a bridge of this name, and has handled nothing.
pub record IsNew (name : Asker) (many place : ℕ) (lane : LaneNow) : Type 0 where
  pub number : lane.state.lane ≡ place
  pub lanes : lane.state.lanes ≡ many
  pub who : lane.state.who ≡ name
  pub none : HasHandled lane.state []

-- The lanes are all those of one bridge, each at its place, and none has handled anything.
abbrev pub AreNew : List LaneNow → Type 0
AreNew lanes =
    (name : Asker)
    × ((place : ℕ) (lane : LaneNow) → slice_get lanes place ≡ Some lane → IsNew name (length lanes) place lane)

-- the lanes, each with its pace and its sink, that have been given nothing
abbrev pub ports_of : {P S : Type 0} → List LaneNow → List (P × S) → List (PortOf P S)
ports_of lanes outfits = map (λ x. port_of x.0 (x.1).0 (x.1).1) (zip lanes outfits)

-- what a sink took, oldest first
abbrev pub Taking : Type 0 → Type 0
Taking S = S → List (Egress Global)

-- what the lane's thread received, and what its sink took
abbrev pub traffic_of : {N S : Type 0} → Taking S → LaneEnd N S → Traffic
traffic_of taken end = record { parcels = received end.consumer; egress = taken end.sink }

-- This is how the lane ended.
abbrev pub EndsAs : {N P S : Type 0} → (P → ℕ → Bool → Type 0) → Taking S → PortOf P S → LaneEnd N S → Type 0
EndsAs answers taken port end = Ended port (answers port.pace) (traffic_of taken end) (run_end end)

-- This is how the lanes ended, each at its place.
abbrev pub AllEnded : {N P S : Type 0} → (P → ℕ → Bool → Type 0) → Taking S → List (PortOf P S) → List (LaneEnd N S)
    → Type 0
AllEnded answers taken [] [] = Unit {0}
AllEnded answers taken [] (e ∷ es) = ⊥
AllEnded answers taken (p ∷ ps) [] = ⊥
AllEnded answers taken (p ∷ ps) (e ∷ es) = EndsAs answers taken p e × AllEnded answers taken ps es

-- who takes out of a ring what a sink took
abbrev pub Taker : Type 0
Taker = Consumer (Egress Global) Global AnyItems

-- The lane's sink feeds whom it fed when it was handed in.
abbrev pub StillFeeds : {N P S : Type 0} → (S → Taker → Type 0) → PortOf P S → LaneEnd N S → Type 0
StillFeeds feeds port end = (c : Taker) → feeds port.sink c → feeds end.sink c

-- The same of each lane.
abbrev pub AllFeed : {N P S : Type 0} → (S → Taker → Type 0) → List (PortOf P S) → List (LaneEnd N S) → Type 0
AllFeed feeds [] [] = Unit {0}
AllFeed feeds [] (e ∷ es) = ⊥
AllFeed feeds (p ∷ ps) [] = ⊥
AllFeed feeds (p ∷ ps) (e ∷ es) = StillFeeds feeds p e × AllFeed feeds ps es

-- what a sink was told that its lane handled, oldest first
abbrev pub Hearing : Type 0 → Type 1
Hearing S = S → List Versioned → Type 0

-- This is how the lane ended, and its sink was told what the lane handled: each item once, in their order, with the
-- version by which.
pub record EndsTold {N P S : Type 0} (answers : P → ℕ → Bool → Type 0) (taken : Taking S) (hearing : Hearing S)
    (port : PortOf P S) (end : LaneEnd N S) : Type 0 where
  pub ended : EndsAs answers taken port end
  pub heard : Hears hearing port.sink end.sink (map versioned ended.ran.served)

-- The same of each lane.
abbrev pub AllTold : {N P S : Type 0} → (P → ℕ → Bool → Type 0) → Taking S → Hearing S → List (PortOf P S)
    → List (LaneEnd N S) → Type 0
AllTold answers taken hearing [] [] = Unit {0}
AllTold answers taken hearing [] (e ∷ es) = ⊥
AllTold answers taken hearing (p ∷ ps) [] = ⊥
AllTold answers taken hearing (p ∷ ps) (e ∷ es) =
    EndsTold answers taken hearing p e × AllTold answers taken hearing ps es
