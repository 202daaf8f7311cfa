-- Lanes that are given more, and stay the lanes that they were.
use Rattle.std.proofs.Common.{◌≡◌, ◌∙◌, ℕ, Bool, true, false, Option, List, [], ◌∷◌, map, if◌then◌else◌, refl, ap, sym}
use Rattle.std.proofs.Common.{inl, inr}
use Rattle.std.specs.Bool.{MatchBool}
use Rattle.desk_rows.specs.Desk.{Desk}
use Rattle.published_desk.specs.Published.{NoticeOf}
use Rattle.media_items.specs.Inputs.{Input}
use Rattle.ingress.specs.Sources.{Origin}
use Rattle.media_workers.specs.LaneRuns.{LaneNow}
use Rattle.udp_wire.specs.Attempts.{Attempt}
use Rattle.media_front.specs.Fronts.{FrontOf, HasReported}
use Rattle.media_front.specs.Waits.{OnWire, HaveWaited, HaveWaitedInPart, video_origins}
use Rattle.media_front.specs.FedLanes.{FedLane, is_due, lanes_in, owing_notice, after_signal, IsFed, AreGiven}
use Rattle.media_front.specs.FedLanes.{AllAreGiven}
use Rattle.event_loop.specs.Turns.{Turn, History, Does, HaveDone, HasCaughtUp, owed, passed, took, lost, looked}
use Rattle.event_loop.specs.Turns.{gave_ticks, let_wait, let_some_wait, entered_desk, saw_desk, wanted_picture}
use Rattle.event_loop.specs.Turns.{chose_sources, asked_picture, made_report, judged_wake, signalled}

owed_lanes : {P S : Type 0} (notice : NoticeOf) (xs : List (FedLane P S))
    → lanes_in (map (owing_notice notice) xs) ≡ lanes_in xs
owed_lanes notice [] = refl
owed_lanes notice (x ∷ xs) = ap (λ (ls : List LaneNow). x.port.lane ∷ ls) (owed_lanes notice xs)

signal_lane : {P S : Type 0} (due : Bool) (x : FedLane P S)
    → (if due then record x { unsignalled = 0; pressed = false } else x).port.lane ≡ x.port.lane
signal_lane true x = refl
signal_lane false x = refl

signal_lanes : {P S : Type 0} (xs : List (FedLane P S)) → lanes_in (map after_signal xs) ≡ lanes_in xs
signal_lanes [] = refl
signal_lanes (x ∷ xs) =
    ap (λ (l : LaneNow). l ∷ lanes_in (map after_signal xs)) (signal_lane (is_due x) x)
    ∙ ap (λ (ls : List LaneNow). x.port.lane ∷ ls) (signal_lanes xs)

fed_lane : {P S : Type 0} (input : Input) (x y : FedLane P S) → IsFed input x y → y.port.lane ≡ x.port.lane
fed_lane {P} {S} input x y (inl given) = ap (λ (z : FedLane P S). z.port.lane) given.2
fed_lane {P} {S} input x y (inr dropped) = ap (λ (z : FedLane P S). z.port.lane) dropped

pub given_lanes : {P S : Type 0} (input : Input) (xs ys : List (FedLane P S)) → AreGiven xs input ys
    → lanes_in ys ≡ lanes_in xs
given_lanes input [] [] all = refl
given_lanes input [] (y ∷ ys) all = absurd all
given_lanes input (x ∷ xs) [] all = absurd all
given_lanes input (x ∷ xs) (y ∷ ys) all =
    ap (λ (l : LaneNow). l ∷ lanes_in ys) (fed_lane input x y all.0)
    ∙ ap (λ (ls : List LaneNow). x.port.lane ∷ ls) (given_lanes input xs ys all.1)

all_given_lanes : {P S : Type 0} (inputs : List Input) (xs ys : List (FedLane P S)) → AllAreGiven inputs xs ys
    → lanes_in ys ≡ lanes_in xs
all_given_lanes {P} {S} [] xs ys same = ap (λ (zs : List (FedLane P S)). lanes_in zs) (sym same)
all_given_lanes (input ∷ inputs) xs ys given =
    all_given_lanes inputs given.0 ys given.2 ∙ given_lanes input xs given.0 given.1

-- ---- sources that wait

have_waited : {P S : Type 0} (desk : Desk) (moment : ℕ) (origins : List Origin) (old new : FrontOf P S)
    (before after : Option (List Attempt))
    → HaveWaited desk moment origins old new before after
    → lanes_in new.feed ≡ lanes_in old.feed
have_waited {P} {S} desk moment [] old new before after same = ap (λ (w : OnWire P S). lanes_in (w.0).feed) (sym same)
have_waited desk moment (o ∷ origins) old new before after waited =
    let mid = waited.0 in
    have_waited desk moment origins mid.0 new mid.1 after waited.2
    ∙ all_given_lanes _ old.feed (mid.0).feed waited.1.waited.handled.items

have_waited_in_part : {P S : Type 0} (desk : Desk) (moment : ℕ) (origins : List Origin) (old new : FrontOf P S)
    (before after : Option (List Attempt))
    → HaveWaitedInPart desk moment origins old new before after
    → lanes_in new.feed ≡ lanes_in old.feed
have_waited_in_part {P} {S} desk moment origins old new before after part =
    ap (λ (f : FrontOf P S). lanes_in f.feed) part.unfed
    ∙ have_waited desk moment part.first old part.behind before after part.waited

-- ---- turns

late_lanes : {P S : Type 0} (late : Bool) (moment : ℕ) (old new : FrontOf P S) → HasCaughtUp late moment old new
    → lanes_in new.feed ≡ lanes_in old.feed
late_lanes true moment old new h = all_given_lanes _ old.feed new.feed h.given
late_lanes {P} {S} false moment old new h = ap (λ (f : FrontOf P S). lanes_in f.feed) h

reported_lanes : {P S : Type 0} (due : Bool) (desk : Desk) (now : ℕ) (before after : Option (List Attempt))
    (old new : FrontOf P S)
    → MatchBool due (HasReported desk now old new before after) ((new ≡ old) × (after ≡ before))
    → lanes_in new.feed ≡ lanes_in old.feed
reported_lanes true desk now before after old new made = given_lanes (Input.report now) old.feed new.feed made.given
reported_lanes {P} {S} false desk now before after old new same = ap (λ (f : FrontOf P S). lanes_in f.feed) same.0

lanes_by_one : {P S : Type 0} (t : Turn) (old new : History P S) → Does old t new
    → lanes_in new.front.feed ≡ lanes_in old.front.feed
lanes_by_one {P} {S} (owed notice) old new d =
    ap (λ (h : History P S). lanes_in h.front.feed) d ∙ owed_lanes notice old.front.feed
lanes_by_one {P} {S} (passed came) old new d = ap (λ (h : History P S). lanes_in h.front.feed) d
lanes_by_one (took late arrival outcome ended) old new d =
    all_given_lanes _ d.mid.feed new.front.feed d.takes.handled.items
    ∙ late_lanes late arrival.moment old.front d.mid d.time.caught
lanes_by_one {P} {S} (lost late arrival) old new d =
    ap (λ (f : FrontOf P S). lanes_in f.feed) d.same ∙ late_lanes late arrival.moment old.front d.mid d.time.caught
lanes_by_one {P} {S} (looked moment) old new d = ap (λ (h : History P S). lanes_in h.front.feed) d.same
lanes_by_one (gave_ticks due moment) old new d = all_given_lanes _ old.front.feed new.front.feed d.given.given
lanes_by_one (let_wait desk moment) old new d =
    have_waited desk moment (video_origins desk) old.front new.front old.tried new.tried d.waited
lanes_by_one (let_some_wait desk moment) old new d =
    have_waited_in_part desk moment (video_origins desk) old.front new.front old.tried new.tried d.waited
lanes_by_one {P} {S} (entered_desk desk) old new d =
    ap (λ (h : History P S). lanes_in h.front.feed) d
lanes_by_one {P} {S} (saw_desk later version desk moment) old new d =
    ap (λ (h : History P S). lanes_in h.front.feed) d.same
lanes_by_one {P} {S} (wanted_picture source moment) old new d =
    ap (λ (h : History P S). lanes_in h.front.feed) d
lanes_by_one {P} {S} (chose_sources moment sources) old new d =
    ap (λ (h : History P S). lanes_in h.front.feed) d.same
lanes_by_one {P} {S} (asked_picture o moment sent) old new d = ap (λ (f : FrontOf P S). lanes_in f.feed) d.asked.same
lanes_by_one (made_report due desk moment) old new d =
    reported_lanes due desk moment old.tried new.tried old.front new.front d.made
lanes_by_one {P} {S} (judged_wake moment raised) old new d =
    ap (λ (h : History P S). lanes_in h.front.feed) d.same
lanes_by_one {P} {S} signalled old new d =
    ap (λ (h : History P S). lanes_in h.front.feed) d ∙ signal_lanes old.front.feed

pub lanes_by_all : {P S : Type 0} (turns : List Turn) (old new : History P S) → HaveDone turns old new
    → lanes_in new.front.feed ≡ lanes_in old.front.feed
lanes_by_all {P} {S} [] old new g = ap (λ (h : History P S). lanes_in h.front.feed) (sym g)
lanes_by_all (t ∷ ts) old new g = lanes_by_all ts g.0 new g.2 ∙ lanes_by_one t old g.0 g.1

-- ---- what the receive side signs with

late_asker : {P S : Type 0} (late : Bool) (moment : ℕ) (old new : FrontOf P S) → HasCaughtUp late moment old new
    → new.ingress.asker ≡ old.ingress.asker
late_asker {P} {S} true moment old new h = ap (λ (f : FrontOf P S). f.ingress.asker) h.same
late_asker {P} {S} false moment old new h = ap (λ (f : FrontOf P S). f.ingress.asker) h

pub asker_by_one : {P S : Type 0} (t : Turn) (old new : History P S) → Does old t new
    → new.front.ingress.asker ≡ old.front.ingress.asker
asker_by_one {P} {S} (owed notice) old new d = ap (λ (h : History P S). h.front.ingress.asker) d
asker_by_one {P} {S} (passed came) old new d = ap (λ (h : History P S). h.front.ingress.asker) d
asker_by_one (took late arrival outcome ended) old new d =
    d.asker ∙ late_asker late arrival.moment old.front d.mid d.time.caught
asker_by_one (lost late arrival) old new d = d.asker ∙ late_asker late arrival.moment old.front d.mid d.time.caught
asker_by_one {P} {S} (looked moment) old new d = ap (λ (h : History P S). h.front.ingress.asker) d.same
asker_by_one {P} {S} (gave_ticks due moment) old new d = ap (λ (f : FrontOf P S). f.ingress.asker) d.given.same
asker_by_one (let_wait desk moment) old new d = d.asker
asker_by_one (let_some_wait desk moment) old new d = d.asker
asker_by_one {P} {S} (entered_desk desk) old new d =
    ap (λ (h : History P S). h.front.ingress.asker) d
asker_by_one {P} {S} (saw_desk later version desk moment) old new d =
    ap (λ (h : History P S). h.front.ingress.asker) d.same
asker_by_one {P} {S} (wanted_picture source moment) old new d =
    ap (λ (h : History P S). h.front.ingress.asker) d
asker_by_one {P} {S} (chose_sources moment sources) old new d =
    ap (λ (h : History P S). h.front.ingress.asker) d.same
asker_by_one {P} {S} (asked_picture o moment sent) old new d = ap (λ (f : FrontOf P S). f.ingress.asker) d.asked.same
asker_by_one (made_report due desk moment) old new d = d.asker
asker_by_one {P} {S} (judged_wake moment raised) old new d =
    ap (λ (h : History P S). h.front.ingress.asker) d.same
asker_by_one {P} {S} signalled old new d = ap (λ (h : History P S). h.front.ingress.asker) d

pub asker_by_all : {P S : Type 0} (turns : List Turn) (old new : History P S) → HaveDone turns old new
    → new.front.ingress.asker ≡ old.front.ingress.asker
asker_by_all {P} {S} [] old new g = ap (λ (h : History P S). h.front.ingress.asker) (sym g)
asker_by_all (t ∷ ts) old new g = asker_by_all ts g.0 new g.2 ∙ asker_by_one t old g.0 g.1
