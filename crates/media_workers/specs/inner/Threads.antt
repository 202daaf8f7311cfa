-- A lane's thread, and the ring ends that the bridge keeps.
use Rattle.std.specs.Prelude.{◌≡◌, ℕ, Bool, true, false, List, [], ◌∷◌, ◌++◌}
use Rattle.std.specs.declared.alloc.Global.{Global}
use Rattle.rtrb.specs.Ring.{received, SameConsumer}
use Rattle.rtrb.specs.declared.consumer.Consumer.{Consumer}
use Rattle.media_workers.specs.declared.lane_end.LaneEnd.{LaneEnd}
use Rattle.media_workers.specs.declared.parcel.Parcel.{Parcel}
use Rattle.media_workers.specs.declared.parcel.Parcel.TheVariants.{Work, End}
use Rattle.media_workers.specs.declared.parcel.FitParcels.{FitParcels}
use Rattle.media_workers.specs.Parcels.{works}
use Rattle.media_workers.specs.LaneRuns.{LaneNow, HasTold, Hears, run_end}
use Rattle.media_workers.specs.Ports.{PortOf}
use Rattle.media_workers.specs.Bridges.{Taking, Hearing, Taker, traffic_of}

-- it is an End
abbrev pub is_end : Parcel → Bool
is_end (Work item notice) = false
is_end End = true

-- the End, once there is one
abbrev pub ending : Bool → List Parcel
ending true = End ∷ []
ending false = []

-- the end of the ring to a lane's thread
abbrev pub ParcelsIn : Type 0 → Type 0
ParcelsIn N = Consumer Parcel Global (FitParcels N)

-- This is how a lane's run ended that began with this lane, this ring end, this sink and this pace.
pub record IsRunOf {N P S : Type 0} (answers : P → ℕ → Bool → Type 0) (taken : Taking S) (feeds : S → Taker → Type 0)
    (hearing : Hearing S) (lane : LaneNow) (consumer : ParcelsIn N) (sink : S) (pace : P)
    (end : LaneEnd N S) : Type 0 where
  pub ring : SameConsumer consumer end.consumer
  pub fed : (c : Taker) → feeds sink c → feeds end.sink c
  pub told : HasTold lane (answers pace) (record { parcels = received consumer; egress = taken sink })
      (traffic_of taken end) (run_end end) (Hears hearing sink end.sink)

-- What ties what was sent down to a lane to whether it has had its End.
abbrev pub IsWhole : List Parcel → Bool → Type 0
IsWhole pushed closed = pushed ≡ works pushed ++ ending closed

-- what stays of a lane whatever Ends it is given
pub record Lasting (P S : Type 0) : Type 0 where
  pub lane : LaneNow
  pub pace : P
  pub sink : S
  pub accepted : List Parcel

abbrev pub lasting : {P S : Type 0} → PortOf P S → Lasting P S
lasting p = record { lane = p.lane; pace = p.pace; sink = p.sink; accepted = p.accepted }
