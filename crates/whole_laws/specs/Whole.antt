-- What a bridge did from its beginning to its end, from the datagrams that it read to those that it sent (own).
use Rattle.std.specs.Prelude.{◌≡◌, ℕ, List, [], ◌∷◌, length, map, Option, Some}
use Rattle.std.specs.List.{AllByRecursion, AllZip, flat_map}
use mathlib.Core.List.{IsPrefix}
use Rattle.logbook.specs.Pages.{Book}
use Rattle.desk_rows.specs.Desk.{Desk}
use Rattle.desk_rows.specs.Edit.{EditOf}
use Rattle.desk_edit.specs.Asked.{CallOf as Call}
use Rattle.sender_feedback.specs.Upstream.{Asker}
use Rattle.ingress.specs.Ingresses.{Knows}
use Rattle.ingress.specs.Sources.{no_sources}
use Rattle.published_desk.specs.Published.{ReaderOf, new_reader}
use Rattle.operator_desk.specs.Entry.{EntryOf}
use Rattle.operator_desk.specs.LegalLogs.{calls_of}
use Rattle.operator_desk.specs.Published.{AreDesks}
use Rattle.media_items.specs.Inputs.{Input}
use Rattle.bridge_core.specs.Sent.{Sent, sent_of}
use Rattle.bridge_core.specs.declared.egress.Egress.{Egress}
use Rattle.std.specs.declared.alloc.Global.{Global}
use Rattle.udp_wire.specs.Attempts.{Attempt, tried_of}
use Rattle.lane_wire.specs.declared.counts.SendCounts.{SendCounts}
use Rattle.lane_wire.specs.Sinks.{WasAsked}
use Rattle.lane_wire.specs.Tries.{WireStep}
use Rattle.bridge_stats.specs.Stats.{no_stats}
use Rattle.media_workers.specs.LaneRuns.{Versioned}
use Rattle.lane_laws.specs.Merges.{merge}
use Rattle.lane_laws.specs.OneList.{IsOneList, SendByVersions}
use Rattle.media_front.specs.FedLanes.{FedLane, IsFresh, AreGiven}
use Rattle.media_front.specs.LeftOut.{none_limited}
use Rattle.event_loop.specs.Came.{Came}
use Rattle.event_loop.specs.Kept.{fresh_kept}
use Rattle.event_loop.specs.Turns.{Turn, History, HaveDone}
use Rattle.event_loop.specs.Shapes.{AreRounds}
use Rattle.event_loop.specs.Runs.{FrontAt}
use Rattle.event_loop.specs.Tries.{Try, AreMeant, came_in, moments_in}
use Rattle.whole_laws.specs.Given.{given_by_turns, Fed, kept, drops_among}

-- what a lane left behind: how many items were dropped for it, what its sink took, what was done on its wire, and how
-- much was sent
pub record LaneLeft : Type 0 where
  pub dropped : ℕ
  pub taken : List (Egress Global)
  pub asked : List WireStep
  pub counts : SendCounts

-- what a bridge left behind: what its inlet read, what its watch told, what its front's wire tried, and its lanes
pub record Left : Type 0 where
  pub read : List Came
  pub told : List ℕ
  pub tried : List Attempt
  pub lanes : List LaneLeft

-- What a lane's wire was asked to send is what its sink took: each datagram once, in order, and nothing else.
abbrev pub IsAsked : LaneLeft → Type 0
IsAsked lane = WasAsked lane.taken lane.asked lane.counts

-- what each lane sent: what its sink took
abbrev pub sent_in : List LaneLeft → List (List Sent)
sent_in lanes = map (λ (l : LaneLeft). map sent_of l.taken) lanes

-- The front has read, told, tried, counted and left out nothing, and knows no source. It has seen no desk, and nobody
-- waits to be asked for a picture.
pub record HasDoneNothing {P S : Type 0} (h : History P S) : Type 0 where
  pub came : h.came ≡ []
  pub told : h.told ≡ []
  pub tried : h.tried ≡ Some []
  pub stats : h.stats ≡ no_stats
  pub kept : h.kept ≡ fresh_kept h.ticked
  pub limiter : h.front.limiter ≡ []
  pub limited : h.front.limited ≡ none_limited
  pub sources : Knows h.front.ingress no_sources

-- The lanes were given one item, to begin their buffers anew, and nothing else.
pub record AreRenewed {P S : Type 0} (feed : List (FedLane P S)) : Type 0 where
  pub fresh : List (FedLane P S)
  pub are : AllByRecursion IsFresh fresh
  pub given : AreGiven fresh Input.renew feed

-- A front in its fresh state, which signs by this name. Its reader is of this publisher and begins with this desk.
pub record IsFreshFront {P S : Type 0} (who : Asker) (start : Desk) (publisher : Book) (at : FrontAt P S) : Type 0 where
  pub nothing : HasDoneNothing at.history
  pub feed : AreRenewed at.history.front.feed
  pub asker : at.history.front.ingress.asker ≡ who
  pub reader : at.reader ≡ Some (new_reader publisher start)

-- The items that a lane handled are a beginning of those that it was given, less those that were dropped, in order. As
-- many were dropped as are counted.
pub record HandledBeginning (given : List Input) (dropped : ℕ) (items : List Versioned) : Type 0 where
  pub fed : List Fed
  pub these : map (λ f. f.0) fed ≡ given
  pub count : dropped ≡ drops_among fed 0
  pub first : IsPrefix (map (λ (v : Versioned). v.input) items) (kept fed)

-- What the front did from its fresh state on: whole rounds, one after another. What its inlet read, what its watch told
-- and what its wire tried is what these turns read, were told and tried, each once and in order.
pub record IsFrontRun {P S : Type 0} (first last : FrontAt P S) (turns : List Turn) (left : Left) : Type 0 where
  pub rounds : AreRounds first.reader last.reader turns
  pub done : HaveDone turns first.history last.history
  pub came : left.read ≡ flat_map came_in turns
  pub moments : left.told ≡ flat_map moments_in turns
  pub tries : List Try
  pub meant : AreMeant turns first.history last.history done tries
  pub tried : map tried_of left.tried ≡ map (λ t. t.what) tries

-- What its lanes did: each handled a beginning of what the turns gave it, and one list of these calls and of just these
-- items gives all that they sent. Each packet goes where the desk of its version has it go. And each lane's wire was
-- asked to send just that.
pub record AreLanesRun (who : Asker) (start : Desk) (calls : List Call) (given : List Input) (lanes : List LaneLeft)
    : Type 0 where
  pub items : List (List Versioned)
  pub handled : AllZip (λ (l : LaneLeft) (own : List Versioned). HandledBeginning given l.dropped own) lanes items
  pub one : IsOneList who (length lanes) start calls (sent_in lanes) (merge calls items)
  pub by_versions : SendByVersions start calls (sent_in lanes)
  pub asked : AllByRecursion IsAsked lanes

-- From the datagrams that were read to those that were sent: a bridge of this name ran from this desk on, beside a desk
-- that accepted the calls of this log. Each desk that its front read is that of a beginning of the log.
pub record IsWhole (P S : Type 0) (who : Asker) (start : Desk) (log : List EntryOf) (left : Left) : Type 0 where
  pub publisher : Book
  pub first : FrontAt P S
  pub last : FrontAt P S
  pub fresh : IsFreshFront who start publisher first
  pub turns : List Turn
  pub front : IsFrontRun first last turns left
  pub lists : List (List EditOf)
  pub desks : AreDesks start log lists
  pub knew : (reader : ReaderOf) → last.reader ≡ Some reader → IsPrefix reader.lists lists
  pub lanes : AreLanesRun who start (calls_of log)
      (Input.renew ∷ given_by_turns turns first.history last.history front.done) left.lanes
