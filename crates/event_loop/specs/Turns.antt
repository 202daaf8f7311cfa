-- What a front does, turn by turn (own).
use Rattle.std.specs.Prelude.{◌≡◌, ◌-◌, nat_eq, nat_lt, not, if◌then◌else◌, ℕ, Bool, true, false, List, [], ◌∷◌, ◌++◌}
use Rattle.std.specs.Prelude.{map, Option}
use Rattle.std.specs.Bool.{MatchBool}
use Rattle.std.specs.List.{FoldsTo}
use Rattle.desk_rows.specs.Desk.{Desk}
use Rattle.published_desk.specs.Published.{NoticeOf}
use Rattle.media_items.specs.Inputs.{Input}
use Rattle.ingress.specs.Sources.{Origin}
use Rattle.ingress.specs.declared.outcome.Outcome.{Outcome}
use Rattle.bridge_stats.specs.Stats.{StatsOf}
use Rattle.picture_requests.specs.declared.source.VideoSource.{VideoSource}
use Rattle.picture_requests.specs.Requests.{due as due_sources}
use Rattle.udp_wire.specs.Attempts.{Attempt}
use Rattle.udp_wire.specs.Pacing.{most_ticks, is_behind, report_due, after_report}
use Rattle.media_front.specs.FedLanes.{owing_notice, after_signal, AllAreGiven}
use Rattle.media_front.specs.Fronts.{FrontOf, Arrival, HasTaken, MayHaveTaken, HasReported, ticks_due, after_ticks}
use Rattle.media_front.specs.Waits.{HaveWaited, HaveWaitedInPart, video_origins}
use Rattle.media_front.specs.Pictures.{HasAsked}
use Rattle.media_front.specs.Probations.{EndsProbation}
use Rattle.event_loop.specs.Came.{Came, datagram}
use Rattle.event_loop.specs.Counted.{all_pass, IsCounted}
use Rattle.event_loop.specs.Moments.{AreUpTo}
use Rattle.event_loop.specs.declared.kept.FrontKept.{FrontKept}
use Rattle.event_loop.specs.Kept.{after_desk, after_wanted, after_picture, after_entry, is_wake_due, after_judging}

-- A front and its history, oldest first: what was read where its datagrams come in, the moments that its watch told,
-- and what was tried on its wire, if that is known. The moment at which the ticks that were due were given last. What
-- it counts of the datagrams that it took in. And what it keeps for its next round: whom it is to ask for pictures, and
-- when it wakes its lanes.
pub record History (P S : Type 0) : Type 0 where
  pub front : FrontOf P S
  pub came : List Came
  pub told : List ℕ
  pub tried : Option (List Attempt)
  pub ticked : ℕ
  pub stats : StatsOf
  pub kept : FrontKept

-- the same of its parts
abbrev pub history : {P S : Type 0} → FrontOf P S → List Came → List ℕ → Option (List Attempt) → ℕ → StatsOf
    → FrontKept → History P S
history front came told tried ticked stats kept =
    record { front = front; came = came; told = told; tried = tried; ticked = ticked; stats = stats; kept = kept }

-- from how many nanoseconds without a tick on a front stood still: 1 s
abbrev pub stood_still : ℕ
stood_still = 1000000000

-- whether a front stood still before this moment, if ticks were given last at that one
abbrev pub is_late : (moment last : ℕ) → Bool
is_late moment last = nat_lt stood_still (moment - last)

-- one thing that a front does
pub data Turn : Type 0 where
  -- each lane is owed this notice
  owed : NoticeOf → Turn
  -- this was read, and not taken in
  passed : Came → Turn
  -- a datagram was read and taken in, and ended the probation of the video source of this SSRC, or of none; before that
  -- the ticks that were due, if the front was late
  took : (late : Bool) → Arrival → Outcome → (ended : Option ℕ) → Turn
  -- the same, but memory ran out
  lost : (late : Bool) → Arrival → Turn
  -- the watch told this moment
  looked : (moment : ℕ) → Turn
  -- the ticks that were due at this moment were given, if any was due
  gave_ticks : (due : Bool) → (moment : ℕ) → Turn
  -- time passed for each video source of these rows
  let_wait : Desk → (moment : ℕ) → Turn
  -- the same for the first of them, until memory ran out
  let_some_wait : Desk → (moment : ℕ) → Turn
  -- it was noted whether the desk of these rows has members
  entered_desk : Desk → Turn
  -- a version of the desk was seen, if it was another one than the last, for pictures that slots need
  saw_desk : (later : Bool) → (version : ℕ) → Desk → (moment : ℕ) → Turn
  -- a source is to be asked for a picture
  wanted_picture : VideoSource → (moment : ℕ) → Turn
  -- these sources were due to be asked for pictures at this moment
  chose_sources : (moment : ℕ) → List VideoSource → Turn
  -- the source of this origin was asked for a picture at this moment, if its address had tokens
  asked_picture : Origin → (moment : ℕ) → (sent : Bool) → Turn
  -- the reports were made, if they were due
  made_report : (due : Bool) → Desk → (moment : ℕ) → Turn
  -- it was judged at this moment whether the lanes are woken
  judged_wake : (moment : ℕ) → (raised : Bool) → Turn
  -- the signals were raised
  signalled : Turn

-- Every lane was given the ticks that are due at this moment.
pub record HasTicked {P S : Type 0} (moment : ℕ) (old new : FrontOf P S) : Type 0 where
  pub given : AllAreGiven (map Input.tick (ticks_due most_ticks old.ticks moment)) old.feed new.feed
  pub ticks : new.ticks ≡ after_ticks most_ticks old.ticks moment
  pub same : new ≡ record old { feed = new.feed; ticks = new.ticks }

-- The same if the front was late, and nothing otherwise.
abbrev pub HasCaughtUp : {P S : Type 0} → Bool → (moment : ℕ) → FrontOf P S → FrontOf P S → Type 0
HasCaughtUp true moment old new = HasTicked moment old new
HasCaughtUp false moment old new = new ≡ old

-- The watch told this moment. It is no earlier than those that it told before.
pub record HasLooked {P S : Type 0} (moment : ℕ) (old new : History P S) : Type 0 where
  pub rising : AreUpTo moment old.told
  pub same : new ≡ record old { told = old.told ++ moment ∷ [] }

-- The datagram of this arrival was read, and the watch told its moment, no earlier than those that it told before.
pub record HasRead {P S : Type 0} (arrival : Arrival) (old new : History P S) : Type 0 where
  pub came : new.came ≡ old.came ++ datagram arrival.from arrival.octets ∷ []
  pub told : new.told ≡ old.told ++ arrival.moment ∷ []
  pub rising : AreUpTo arrival.moment old.told

-- Before the datagram of this arrival, a front that was late gave the ticks that were due.
pub record IsInTime {P S : Type 0} (late : Bool) (arrival : Arrival) (old : History P S) (mid : FrontOf P S) (last : ℕ)
    : Type 0 where
  pub right : late ≡ is_late arrival.moment old.ticked
  pub ticked : last ≡ (if late then arrival.moment else old.ticked)
  pub caught : HasCaughtUp late arrival.moment old.front mid

-- A datagram was read and taken in, was counted once, and ended the probation of this video source, or of none.
pub record TakesArrival {P S : Type 0} (late : Bool) (arrival : Arrival) (outcome : Outcome) (ended : Option ℕ)
    (old new : History P S) : Type 0 where
  pub read : HasRead arrival old new
  pub mid : FrontOf P S
  pub time : IsInTime late arrival old mid new.ticked
  pub takes : HasTaken arrival outcome mid new.front old.tried new.tried
  pub ends : EndsProbation arrival outcome mid.ingress new.front.ingress ended
  pub same : new.front
      ≡ record mid {
        ingress = new.front.ingress;
        feed = new.front.feed;
        limiter = new.front.limiter;
        limited = new.front.limited;
      }
  pub asker : new.front.ingress.asker ≡ mid.ingress.asker
  pub counted : IsCounted (all_pass mid.limited new.front.limited) arrival outcome old.stats new.stats
  pub kept : new.kept ≡ old.kept

-- A datagram was read, and memory ran out: nothing was sent, given or counted, though the receive side may have taken
-- it in.
pub record LosesArrival {P S : Type 0} (late : Bool) (arrival : Arrival) (old new : History P S) : Type 0 where
  pub read : HasRead arrival old new
  pub mid : FrontOf P S
  pub time : IsInTime late arrival old mid new.ticked
  pub ingress : MayHaveTaken arrival mid.ingress new.front.ingress
  pub same : new.front ≡ record mid { ingress = new.front.ingress }
  pub asker : new.front.ingress.asker ≡ mid.ingress.asker
  pub tried : new.tried ≡ old.tried
  pub stats : new.stats ≡ old.stats
  pub kept : new.kept ≡ old.kept

-- Nothing changed but the front and what was tried.
abbrev pub HasActed : {P S : Type 0} → History P S → History P S → Type 0
HasActed old new = new ≡ record old { front = new.front; tried = new.tried }

-- The ticks that were due at a moment were given.
pub record GivesTicks {P S : Type 0} (due : Bool) (moment : ℕ) (old new : History P S) : Type 0 where
  pub right : due ≡ is_behind old.front.ticks moment
  pub given : HasTicked moment old.front new.front
  pub same : new ≡ record old { front = new.front; ticked = moment }

-- Time passed for video sources: for all of these rows, or for the first of them.
pub record PassesTime {P S : Type 0} (whole : Bool) (desk : Desk) (moment : ℕ) (old new : History P S) : Type 0 where
  pub waited : MatchBool whole
      (HaveWaited desk moment (video_origins desk) old.front new.front old.tried new.tried)
      (HaveWaitedInPart desk moment (video_origins desk) old.front new.front old.tried new.tried)
  pub kept : new.front
      ≡ record old.front {
        ingress = new.front.ingress;
        feed = new.front.feed;
        limiter = new.front.limiter;
        limited = new.front.limited;
      }
  pub asker : new.front.ingress.asker ≡ old.front.ingress.asker
  pub same : HasActed old new

-- Nothing changed but what is kept for the next round, to this.
abbrev pub HasNoted : {P S : Type 0} → FrontKept → History P S → History P S → Type 0
HasNoted kept old new = new ≡ record old { kept = kept }

-- A version of the desk was seen, if it was another one than the last.
pub record SeesDesk {P S : Type 0} (later : Bool) (version : ℕ) (desk : Desk) (moment : ℕ) (old new : History P S)
    : Type 0 where
  pub right : later ≡ not (nat_eq version old.kept.version)
  pub same : HasNoted (after_desk later version desk moment old.kept) old new

-- These are the sources that were due to be asked for pictures, and nothing was done.
pub record ChoosesSources {P S : Type 0} (moment : ℕ) (sources : List VideoSource) (old new : History P S)
    : Type 0 where
  pub right : sources ≡ due_sources moment old.kept.pictures
  pub same : new ≡ old

-- A source was asked for a picture, which is noted with the moment, or its address had too few tokens.
pub record AsksPicture {P S : Type 0} (o : Origin) (moment : ℕ) (sent : Bool) (old new : History P S) : Type 0 where
  pub asked : HasAsked o sent old.front new.front old.tried new.tried
  pub noted : new.kept ≡ after_picture o moment sent old.kept
  pub same : new ≡ record old { front = new.front; tried = new.tried; kept = new.kept }

-- It was judged whether the lanes are woken.
pub record JudgesWake {P S : Type 0} (moment : ℕ) (raised : Bool) (old new : History P S) : Type 0 where
  pub right : raised ≡ is_wake_due moment old.kept.has_members old.kept.wakes
  pub same : HasNoted (after_judging moment old.kept) old new

-- The reports were made, if they were due, and otherwise nothing was done.
pub record MakesReports {P S : Type 0} (due : Bool) (desk : Desk) (moment : ℕ) (old new : History P S) : Type 0 where
  pub right : due ≡ report_due old.front.reports moment
  pub made : MatchBool due (HasReported desk moment old.front new.front old.tried new.tried)
      ((new.front ≡ old.front) × (new.tried ≡ old.tried))
  pub timer : new.front.reports ≡ after_report old.front.reports moment
  pub kept : new.front ≡ record new.front { limiter = old.front.limiter; ticks = old.front.ticks }
  pub asker : new.front.ingress.asker ≡ old.front.ingress.asker
  pub same : HasActed old new

-- The front did this, and nothing else.
abbrev pub Does : {P S : Type 0} → History P S → Turn → History P S → Type 0
Does old (owed notice) new =
    new ≡ record old { front = record old.front { feed = map (owing_notice notice) old.front.feed } }
Does old (passed came) new = new ≡ record old { came = old.came ++ came ∷ [] }
Does old (took late arrival outcome ended) new = TakesArrival late arrival outcome ended old new
Does old (lost late arrival) new = LosesArrival late arrival old new
Does old (looked moment) new = HasLooked moment old new
Does old (gave_ticks due moment) new = GivesTicks due moment old new
Does old (let_wait desk moment) new = PassesTime true desk moment old new
Does old (let_some_wait desk moment) new = PassesTime false desk moment old new
Does old (entered_desk desk) new = HasNoted (after_entry desk old.kept) old new
Does old (saw_desk later version desk moment) new = SeesDesk later version desk moment old new
Does old (wanted_picture source moment) new = HasNoted (after_wanted source moment old.kept) old new
Does old (chose_sources moment sources) new = ChoosesSources moment sources old new
Does old (asked_picture o moment sent) new = AsksPicture o moment sent old new
Does old (made_report due desk moment) new = MakesReports due desk moment old new
Does old (judged_wake moment raised) new = JudgesWake moment raised old new
Does old signalled new = new ≡ record old { front = record old.front { feed = map after_signal old.front.feed } }

-- The front did these, one after another, and nothing else.
abbrev pub HaveDone : {P S : Type 0} → List Turn → History P S → History P S → Type 0
HaveDone turns old new = FoldsTo Does old turns new
