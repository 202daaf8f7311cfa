-- What a bridge keeps of each of its lanes (own).
use Rattle.std.specs.Prelude.{◌≡◌, ℕ, Bool, true, false, List, [], ◌∷◌, ◌++◌, map}
use mathlib.Core.List.{IsPrefix}
use Rattle.bridge_core.specs.Sent.{sent_of}
use Rattle.media_workers.specs.declared.parcel.Parcel.{Parcel}
use Rattle.media_workers.specs.declared.parcel.Parcel.TheVariants.{Work, End}
use Rattle.media_workers.specs.Parcels.{works}
use Rattle.media_workers.specs.LaneRuns.{LaneNow, Ran, RunEnd, Traffic}

-- how many parcels a lane's ring holds
abbrev pub ring_places : ℕ
ring_places = 1024

-- a lane that was handed in, with its pace and its sink; the parcels with items that `push` accepted for it; and
-- whether it has had its End
pub record PortOf (P S : Type 0) : Type 0 where
  pub lane : LaneNow
  pub pace : P
  pub sink : S
  pub accepted : List Parcel
  pub closed : Bool

-- a lane that has been given nothing
abbrev pub port_of : {P S : Type 0} → LaneNow → P → S → PortOf P S
port_of lane pace sink = record { lane = lane; pace = pace; sink = sink; accepted = []; closed = false }

-- the lane is given a parcel
abbrev pub accept : {P S : Type 0} → Parcel → PortOf P S → PortOf P S
accept (Work item notice) port = record port { accepted = port.accepted ++ Work item notice ∷ [] }
accept End port = record port { closed = true }

-- The run of the lane: it received the first parcels that were accepted for it, and all of them if it received an End.
pub record Ended {P S : Type 0} (port : PortOf P S) (answers : ℕ → Bool → Type 0) (traffic : Traffic)
    (told : RunEnd) : Type 0 where
  pub ran : Ran port.lane answers traffic.parcels (map sent_of traffic.egress) told
  pub some : IsPrefix (works traffic.parcels) port.accepted
  pub all : (front : List Parcel) → traffic.parcels ≡ front ++ End ∷ [] → works traffic.parcels ≡ port.accepted
