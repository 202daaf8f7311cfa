-- Why a front tried to send what it tried (own).
use Rattle.std.specs.Prelude.{◌≡◌, ℕ, true, false, Bool, if◌then◌else◌, List, [], ◌∷◌, ◌++◌, map, Option}
use Rattle.std.specs.Bool.{MatchBool}
use Rattle.std.specs.List.{AllByRecursion, Contains, FoldsTo}
use Rattle.rtp_codec.specs.declared.address.Address.{Address}
use Rattle.desk_rows.specs.Desk.{Desk}
use Rattle.ingress.specs.Ingested.{Ingested}
use Rattle.ingress.specs.Ingresses.{TellsSenders, WaitsFor}
use Rattle.ingress.specs.Sources.{Origin}
use Rattle.ingress.specs.Taking.{picture_request}
use Rattle.ingress.specs.inner.Holding.{IngressOf}
use Rattle.media_front.specs.Tries.{WereTried}
use Rattle.udp_wire.specs.Attempts.{Attempt}
use Rattle.media_front.specs.Paid.{paid_of}
use Rattle.media_front.specs.Fronts.{FrontOf, Arrival, HasIngested, HasReported, once_refilled}
use Rattle.media_front.specs.Waits.{OnWire, HasWaitedOnce, HaveWaited, video_origins, silence}
use Rattle.event_loop.specs.Came.{Came, datagram}
use Rattle.event_loop.specs.Turns.{Turn, History, Does, HaveDone, owed, passed, took, lost, looked, gave_ticks}
use Rattle.event_loop.specs.Turns.{let_wait, let_some_wait, entered_desk, saw_desk, wanted_picture, chose_sources}
use Rattle.event_loop.specs.Turns.{asked_picture, made_report, judged_wake, signalled}

-- Why a datagram is tried: the receive side answers one that arrived, or asks again as time passes for a source; a
-- report is due; or a source is asked for a picture.
pub data Why : Type 0 where
  answers : (late : Bool) → Arrival → Ingested → Why
  asks_again : Desk → (moment : ℕ) → Origin → Ingested → Why
  reports : Desk → (moment : ℕ) → Why
  asks_picture : Origin → (moment : ℕ) → Why

-- a datagram that is tried, and why
pub record Try : Type 0 where
  pub what : Address × List ℕ
  pub why : Why

-- A front did this turn in the course of these, from one state to the next.
abbrev pub HasDone : {P S : Type 0} → List Turn → History P S → Turn → (before after : History P S) → Type 0
HasDone turns start turn before after =
    (first : List Turn) × (rest : List Turn) × (turns ≡ first ++ turn ∷ rest)
    × HaveDone first start before × Does before turn after

-- time passes for all video sources of these rows, or for the first of them
abbrev pub time_passes : Bool → Desk → (moment : ℕ) → Turn
time_passes true desk moment = let_wait desk moment
time_passes false desk moment = let_some_wait desk moment

-- The receive side had a wait of this video source, after the waits of those before it, and this is its answer.
pub record AsksAgain {P S : Type 0} (desk : Desk) (moment : ℕ) (o : Origin) (ingested : Ingested) (old : History P S)
    : Type 0 where
  pub first : List Origin
  pub rest : List Origin
  pub order : video_origins desk ≡ first ++ o ∷ rest
  pub front : FrontOf P S
  pub tried : Option (List Attempt)
  pub waited : HaveWaited desk moment first old.front front old.tried tried
  pub new : IngressOf
  pub waits : WaitsFor front.ingress new ingested desk o moment

-- Of a front that did these turns: it took the datagram of this arrival in, and this is one of the compounds by which
-- its ingress answers. Or time passed for a video source, and this is one of the compounds that ask its sender again.
-- Or it is one of the receiver reports of a report that was due. Or it is the PLI that asks a source for a picture,
-- signed as the front began.
abbrev pub IsMeant : {P S : Type 0} → List Turn → History P S → Address × List ℕ → Why → Type 0
IsMeant {P} {S} turns start what (answers late arrival ingested) =
    (old : History P S) × (new : History P S) × (ended : Option ℕ)
    × HasDone turns start (took late arrival ingested.outcome ended) old new
    × HasIngested arrival ingested old.front.ingress new.front.ingress × Contains ingested.up what
IsMeant {P} {S} turns start what (asks_again desk moment o ingested) =
    (whole : Bool) × (old : History P S) × (new : History P S)
    × HasDone turns start (time_passes whole desk moment) old new × AsksAgain desk moment o ingested old
    × Contains ingested.up what
IsMeant {P} {S} turns start what (reports desk moment) =
    (old : History P S) × (new : History P S) × HasDone turns start (made_report true desk moment) old new
    × ((told : List (Address × List ℕ)) × TellsSenders old.front.ingress new.front.ingress told desk moment
    × Contains told what)
IsMeant {P} {S} turns start what (asks_picture o moment) =
    (old : History P S) × (new : History P S) × HasDone turns start (asked_picture o moment true) old new
    × (what ≡ picture_request start.front.ingress.asker o)

-- datagrams that are tried for one reason
abbrev pub tries_for : Why → List (Address × List ℕ) → List Try
tries_for why datagrams = map (λ d. record { what = d; why = why }) datagrams

-- what the waits of these sources tried, one after another: of what asks their senders again, what could be paid for
abbrev pub waits_tried : {P S : Type 0} (desk : Desk) (moment : ℕ) (origins : List Origin) (old new : OnWire P S)
    → FoldsTo (HasWaitedOnce desk moment) old origins new → List Try
waits_tried desk moment [] old new waited = []
waits_tried desk moment (o ∷ os) old new waited =
    tries_for (asks_again desk moment o waited.1.waited.ingested)
    (paid_of waited.1.waited.ingested.up
    (once_refilled (silence desk o.address moment) waited.1.waited.ingested old.0.limiter))
    ++ waits_tried desk moment os waited.0 new waited.2

-- what the reports tried, if they were due
abbrev pub reports_tried : {P S : Type 0} (due : Bool) (desk : Desk) (moment : ℕ) (old new : FrontOf P S)
    (before after : Option (List Attempt))
    → MatchBool due (HasReported desk moment old new before after) ((new ≡ old) × (after ≡ before)) → List Try
reports_tried true desk moment old new before after made = tries_for (reports desk moment) made.told
reports_tried false desk moment old new before after made = []

-- what a turn tried, in order, and why
abbrev pub tries_by : {P S : Type 0} (turn : Turn) (old new : History P S) → Does old turn new → List Try
tries_by (took late arrival outcome ended) old new did =
    tries_for (answers late arrival did.takes.ingested)
    (paid_of did.takes.ingested.up (once_refilled arrival did.takes.ingested did.mid.limiter))
tries_by (let_wait desk moment) old new did =
    waits_tried desk moment (video_origins desk) (old.front, old.tried) (new.front, new.tried) did.waited
tries_by (let_some_wait desk moment) old new did =
    waits_tried desk moment did.waited.first (old.front, old.tried) (did.waited.behind, new.tried) did.waited.waited
tries_by (asked_picture o moment sent) old new did =
    if sent
    then record { what = picture_request old.front.ingress.asker o; why = asks_picture o moment } ∷ []
    else []
tries_by (made_report due desk moment) old new did =
    reports_tried due desk moment old.front new.front old.tried new.tried did.made
tries_by (owed notice) old new did = []
tries_by (passed came) old new did = []
tries_by (lost late arrival) old new did = []
tries_by (looked moment) old new did = []
tries_by (gave_ticks due moment) old new did = []
tries_by (entered_desk desk) old new did = []
tries_by (saw_desk later version desk moment) old new did = []
tries_by (wanted_picture source moment) old new did = []
tries_by (chose_sources moment sources) old new did = []
tries_by (judged_wake moment raised) old new did = []
tries_by signalled old new did = []

-- what these turns tried, in order, and why
abbrev pub tries_by_turns : {P S : Type 0} (turns : List Turn) (old new : History P S) → HaveDone turns old new
    → List Try
tries_by_turns [] old new done = []
tries_by_turns (turn ∷ turns) old new done = tries_by turn old done.0 done.1 ++ tries_by_turns turns done.0 new done.2

-- Over these turns the front tried to send these datagrams alone, each for its reason: what each of the turns tried,
-- once and in order.
abbrev pub AreMeant : {P S : Type 0} (turns : List Turn) (old new : History P S) → HaveDone turns old new → List Try
    → Type 0
AreMeant turns old new done tries =
    (tries ≡ tries_by_turns turns old new done)
    × WereTried (map (λ t. t.what) tries) old.tried new.tried
    × AllByRecursion (λ (t : Try). IsMeant turns old t.what t.why) tries

-- what a turn read
abbrev pub came_in : Turn → List Came
came_in (passed came) = came ∷ []
came_in (took late arrival outcome ended) = datagram arrival.from arrival.octets ∷ []
came_in (lost late arrival) = datagram arrival.from arrival.octets ∷ []
came_in (owed notice) = []
came_in (looked moment) = []
came_in (gave_ticks due moment) = []
came_in (let_wait desk moment) = []
came_in (let_some_wait desk moment) = []
came_in (entered_desk desk) = []
came_in (saw_desk later version desk moment) = []
came_in (wanted_picture source moment) = []
came_in (chose_sources moment sources) = []
came_in (asked_picture o moment sent) = []
came_in (made_report due desk moment) = []
came_in (judged_wake moment raised) = []
came_in signalled = []

-- the moments that a turn was told
abbrev pub moments_in : Turn → List ℕ
moments_in (took late arrival outcome ended) = arrival.moment ∷ []
moments_in (lost late arrival) = arrival.moment ∷ []
moments_in (looked moment) = moment ∷ []
moments_in (passed came) = []
moments_in (owed notice) = []
moments_in (gave_ticks due moment) = []
moments_in (let_wait desk moment) = []
moments_in (let_some_wait desk moment) = []
moments_in (entered_desk desk) = []
moments_in (saw_desk later version desk moment) = []
moments_in (wanted_picture source moment) = []
moments_in (chose_sources moment sources) = []
moments_in (asked_picture o moment sent) = []
moments_in (made_report due desk moment) = []
moments_in (judged_wake moment raised) = []
moments_in signalled = []
