-- What a sink was told that its lane handled, and what of that it handed on (own).
use Rattle.std.specs.Prelude.{◌≡◌, ◌<◌, ℕ, List, [], ◌∷◌, ◌++◌, Option, None, Some, IsSome, IfSome}
use Rattle.std.specs.declared.alloc.Global.{Global}
use Rattle.rtrb.specs.Ring.{sent, known_free, IsPair, SameProducer}
use Rattle.rtrb.specs.declared.consumer.Consumer.{Consumer}
use Rattle.rtrb.specs.declared.AnyItems.{AnyItems}
use Rattle.media_workers.specs.LaneRuns.{Versioned, handled_by}
use Rattle.lane_wire.specs.declared.handled.Handled.{Handled}
use Rattle.lane_wire.specs.declared.handled.HandledLog.{HandledLog, Nothing, More'}
use Rattle.lane_wire.specs.declared.lane_trace.LaneTrace.{LaneTrace}

-- all that was handled, oldest first
abbrev pub handled_list : HandledLog → List Handled
handled_list Nothing = []
handled_list (More' marker before last) = handled_list before ++ last.value ∷ []

-- what was handled: what is in the item, and the version
abbrev pub versioned_item : Handled → Versioned
versioned_item h = handled_by h.version h.item

-- what was handed on
abbrev pub handed_on : LaneTrace → List Handled
handed_on trace = sent trace.ring

-- This is the other end of the ring.
abbrev pub HandsTo : LaneTrace → Consumer Handled Global AnyItems → Type 0
HandsTo trace consumer = IsPair trace.ring consumer

-- how many places of the ring are known to be free
abbrev pub free_places : LaneTrace → ℕ
free_places trace = known_free trace.ring

-- It is the same ring, of as many places.
abbrev pub IsSameTrace : LaneTrace → LaneTrace → Type 0
IsSameTrace old new = SameProducer old.ring new.ring

-- what a sink was told that its lane handled, and where it hands that on
pub record HandledOf : Type 0 where
  pub handled : List Handled
  pub trace : Option LaneTrace

-- The ring, if there is one, was given all of these.
abbrev pub HasAll : List Handled → Option LaneTrace → Type 0
HasAll handled trace = IfSome trace (λ t. handed_on t ≡ handled)

-- Items are handed on by the same ring as before. It isn't given up while a place of it is known to be free.
abbrev pub GoesOn : Option LaneTrace → Option LaneTrace → Type 0
GoesOn None new = new ≡ None
GoesOn (Some old) new = (0 < free_places old → IsSome new) × IfSome new (IsSameTrace old)
