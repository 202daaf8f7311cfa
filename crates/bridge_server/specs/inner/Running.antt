-- A front that runs, and one whose rounds are over (own).
use Rattle.std.specs.Prelude.{◌≡◌, ℕ, List, [], Option, Some, None}
use Rattle.std.specs.List.{AllByRecursion}
use Rattle.logbook.specs.Pages.{Book}
use Rattle.desk_rows.specs.Desk.{Desk}
use Rattle.sender_feedback.specs.Upstream.{Asker}
use Rattle.published_desk.specs.Published.{ReaderOf}
use Rattle.ingress.specs.Ingresses.{Knows}
use Rattle.ingress.specs.Sources.{no_sources}
use Rattle.media_front.specs.FedLanes.{IsFresh}
use Rattle.media_front.specs.Fronts.{FrontOf}
use Rattle.media_front.specs.LeftOut.{none_limited}
use Rattle.event_loop.specs.Logs.{read_list, tried_list}
use Rattle.event_loop.specs.Runs.{FrontAt, front_at, HasRun, Whole, Begun, Failed}
use Rattle.event_loop.specs.Turns.{History}
use Rattle.event_loop.specs.declared.running.BegunRound.{BegunRound}
use Rattle.whole_laws.specs.Whole.{IsFreshFront}
use Rattle.bridge_server.specs.OneRun.{IsSetUp}
use Rattle.bridge_server.specs.declared.stopped.FrontLeft.{FrontLeft}

-- The lanes were given nothing, and the front knows, counted and left out nothing.
pub record IsNewMedia {P S : Type 0} (front : FrontOf P S) : Type 0 where
  pub feed : AllByRecursion IsFresh front.feed
  pub limiter : front.limiter ≡ []
  pub limited : front.limited ≡ none_limited
  pub sources : Knows front.ingress no_sources

-- From the one to the other the front did whole rounds, or these and half of one that has begun, or a round failed. By
-- where its reader is: at hand, with the round that has begun, or lost.
abbrev pub HasComeTo : {P S : Type 0} → FrontAt P S → History P S → Option ReaderOf → Option BegunRound → Type 0
HasComeTo start now (Some reader) None = HasRun Whole start (front_at now (Some reader))
HasComeTo start now None (Some begun) = HasRun Begun start (front_at now (Some begun.reader))
HasComeTo start now None None = HasRun Failed start (front_at now None)
HasComeTo start now (Some reader) (Some begun) = ⊥

-- The front was set up so, and has come from its fresh state to here by rounds alone.
pub record IsRunning {P S : Type 0} (who : Asker) (many : ℕ) (start : Desk) (publisher : Book) (now : History P S)
    (reader : Option ReaderOf) (begun : Option BegunRound) : Type 0 where
  pub set_up : IsSetUp who many start publisher now.front
  pub first : FrontAt P S
  pub fresh : IsFreshFront who start publisher first
  pub ran : HasComeTo first now reader begun

-- A front with this reader did whole rounds from its fresh state on, and left this behind.
pub record HasLeft {P S : Type 0} (who : Asker) (start : Desk) (publisher : Book) (front : FrontOf P S)
    (reader : ReaderOf) (left : FrontLeft) : Type 0 where
  pub first : FrontAt P S
  pub fresh : IsFreshFront who start publisher first
  pub last : History P S
  pub ran : HasRun Whole first (front_at last (Some reader))
  pub same : last.front ≡ front
  pub read : last.came ≡ read_list left.read
  pub told : last.told ≡ left.told
  pub tried : last.tried ≡ Some (tried_list left.tried)
