-- What the turns of a front gave its lanes, and what a lane kept of it (own).
use Rattle.std.specs.Prelude.{◌≡◌, ℕ, Bool, true, false, if◌then◌else◌, List, [], ◌∷◌, ◌++◌, map, Option}
use Rattle.std.specs.List.{AllZip, FoldsTo}
use Rattle.desk_rows.specs.Desk.{Desk}
use Rattle.media_items.specs.Inputs.{Input, input_of}
use Rattle.ingress.specs.Sources.{Origin}
use Rattle.ingress.specs.Ingested.{Ingested}
use Rattle.udp_wire.specs.Attempts.{Attempt}
use Rattle.udp_wire.specs.Pacing.{most_ticks}
use Rattle.media_workers.specs.declared.parcel.Parcel.{Parcel}
use Rattle.media_workers.specs.declared.parcel.Parcel.TheVariants.{Work, End}
use Rattle.media_workers.specs.Parcels.{item_in}
use Rattle.media_front.specs.FedLanes.{FedLane, one_more}
use Rattle.media_front.specs.Fronts.{FrontOf, Arrival, HasReported, ticks_due, once_paid}
use Rattle.media_front.specs.Granted.{granted_of}
use Rattle.media_front.specs.Prices.{pli_octets}
use Rattle.media_front.specs.Waits.{OnWire, HasWaitedOnce, silence, video_origins}
use Rattle.event_loop.specs.Turns.{Turn, History, Does, HaveDone, owed, passed, took, lost, looked, gave_ticks}
use Rattle.event_loop.specs.Turns.{let_wait, let_some_wait, entered_desk, saw_desk, wanted_picture, chose_sources}
use Rattle.event_loop.specs.Turns.{asked_picture, made_report, judged_wake, signalled}

-- the ticks that are due at a moment
abbrev pub ticks_at : {P S : Type 0} → (moment : ℕ) → FrontOf P S → List Input
ticks_at moment old = map Input.tick (ticks_due most_ticks old.ticks moment)

-- the ticks before a datagram, if the front was late
abbrev pub caught : {P S : Type 0} → Bool → (moment : ℕ) → FrontOf P S → List Input
caught late moment old = if late then ticks_at moment old else []

-- what the limiter grants of what the intake answered to an arrival
abbrev pub granted_by : {P S : Type 0} → Arrival → Ingested → FrontOf P S → List Input
granted_by arrival ingested old =
    granted_of (pli_octets old.ingress.asker) arrival.moment ingested.items (once_paid arrival ingested old.limiter)

-- what came of the waits of these sources, one after another
abbrev pub given_waits : {P S : Type 0} (desk : Desk) (moment : ℕ) (origins : List Origin) (old new : OnWire P S)
    → FoldsTo (HasWaitedOnce desk moment) old origins new → List Input
given_waits desk moment [] old new waited = []
given_waits desk moment (o ∷ os) old new waited =
    granted_by (silence desk o.address moment) (waited.1.waited.ingested) old.0
    ++ given_waits desk moment os waited.0 new waited.2

-- what a report gave, if it was due
abbrev pub given_report : Bool → (moment : ℕ) → List Input
given_report due moment = if due then Input.report moment ∷ [] else []

-- what a turn gave every lane, in order
abbrev pub given_by : {P S : Type 0} (turn : Turn) (old new : History P S) → Does old turn new → List Input
given_by (took late arrival outcome ended) old new did =
    caught late arrival.moment old.front ++ granted_by arrival did.takes.ingested did.mid
given_by (lost late arrival) old new did = caught late arrival.moment old.front
given_by (gave_ticks due moment) old new did = ticks_at moment old.front
given_by (let_wait desk moment) old new did =
    given_waits desk moment (video_origins desk) (old.front, old.tried) (new.front, new.tried) did.waited
given_by (let_some_wait desk moment) old new did =
    given_waits desk moment did.waited.first (old.front, old.tried) (did.waited.behind, new.tried) did.waited.waited
given_by (made_report due desk moment) old new did = given_report due moment
given_by (owed notice) old new did = []
given_by (passed came) old new did = []
given_by (looked moment) old new did = []
given_by (entered_desk desk) old new did = []
given_by (saw_desk later version desk moment) old new did = []
given_by (wanted_picture source moment) old new did = []
given_by (chose_sources moment sources) old new did = []
given_by (asked_picture o moment sent) old new did = []
given_by (judged_wake moment raised) old new did = []
given_by signalled old new did = []

-- what these turns gave every lane, in order
abbrev pub given_by_turns : {P S : Type 0} (turns : List Turn) (old new : History P S) → HaveDone turns old new
    → List Input
given_by_turns [] old new done = []
given_by_turns (turn ∷ turns) old new done = given_by turn old done.0 done.1 ++ given_by_turns turns done.0 new done.2

-- an input that a lane was given, and whether the lane accepted it or its ring was full
abbrev pub Fed : Type 0
Fed = Input × Bool

-- those that were accepted
abbrev pub kept : List Fed → List Input
kept [] = []
kept (f ∷ fs) = (if f.1 then f.0 ∷ [] else []) ++ kept fs

-- the count of dropped items with the others
abbrev pub drops_among : List Fed → ℕ → ℕ
drops_among [] count = count
drops_among (f ∷ fs) count = drops_among fs (if f.1 then count else one_more count)

-- the items of these parcels
abbrev pub inputs_of : List Parcel → List Input
inputs_of [] = []
inputs_of (Work item notice ∷ ps) = input_of (item_in item) ∷ inputs_of ps
inputs_of (End ∷ ps) = inputs_of ps

-- Of these inputs the lane accepted some, in their order, and the others were dropped and counted.
pub record HasKept {P S : Type 0} (inputs : List Input) (old new : FedLane P S) : Type 0 where
  pub fed : List Fed
  pub these : map (λ f. f.0) fed ≡ inputs
  pub accepted : inputs_of new.port.accepted ≡ inputs_of old.port.accepted ++ kept fed
  pub dropped : new.dropped ≡ drops_among fed old.dropped
