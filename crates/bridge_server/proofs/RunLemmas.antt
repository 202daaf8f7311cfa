-- From a bridge's beginning to what its lanes sent.
use Rattle.std.proofs.Common.{◌≡◌, ◌∙◌, ◌<◌, ℕ, Bool, true, zero, suc, List, [], ◌∷◌, map, length, All, Option, Some}
use Rattle.std.proofs.Common.{slice_get}
use mathlib.Core.List.{IsPrefix}
use Rattle.std.proofs.Common.{refl, ap, sym, subst, arith}
use Rattle.std.specs.List.{AllByRecursion}
use Rattle.std.proofs.lemmas.List.{get_or-map, length-map}
use Rattle.logbook.specs.Pages.{Book}
use Rattle.desk_rows.specs.Desk.{Desk, good}
use Rattle.published_desk.specs.Published.{ReaderOf, NoticeOf, new_reader}
use Rattle.bridge_core.specs.Sent.{Sent, sent_of}
use Rattle.sender_feedback.specs.Upstream.{Asker}
use Rattle.operator_desk.specs.Answers.{Tells}
use Rattle.operator_desk.specs.Entry.{EntryOf}
use Rattle.operator_desk.specs.LegalLogs.{IsLegal, calls_of}
use Rattle.media_workers.specs.LaneRuns.{LaneNow}
use Rattle.media_workers.specs.declared.lane_end.LaneEnd.{LaneEnd}
use Rattle.media_workers.specs.Ports.{PortOf}
use Rattle.media_workers.specs.Bridges.{Taking, AllEnded, IsNew, AreNew}
use Rattle.lane_laws.specs.Learnt.{AllBegin, AllRead, AllSeen, HaveEnded, EndedAfter, lanes_of, merged}
use Rattle.lane_laws.specs.OneList.{IsOneList, SendByVersions, sent_by}
use Rattle.media_front.specs.FedLanes.{FedLane, ports_in, lanes_in}
use Rattle.media_front.specs.Fronts.{FrontOf}
use Rattle.media_items.specs.Inputs.{Input}
use Rattle.event_loop.specs.Turns.{Turn, HaveDone}
use Rattle.event_loop.specs.Shapes.{AreRounds}
use Rattle.event_loop.specs.Runs.{front_at}
use Rattle.whole_laws.specs.Given.{given_by_turns}
use Rattle.whole_laws.specs.Whole.{LaneLeft, Left, sent_in, HasDoneNothing, AreRenewed, IsFrontRun, AreLanesRun}
use Rattle.whole_laws.specs.Whole.{IsAsked, IsWhole}
use Rattle.std.specs.declared.alloc.Global.{Global}
use Rattle.bridge_core.specs.declared.egress.Egress.{Egress}
use Rattle.lane_wire.specs.Logs.{taken_list}
use Rattle.lane_wire.specs.Sinks.{AskedForAll}
use Rattle.lane_wire.specs.declared.wire_sink.LaneSent.{LaneSent}
use Rattle.bridge_server.specs.OneRun.{HaveBegun, IsOneRun, sent_into}
use Rattle.bridge_server.specs.WholeRun.{lanes_left, left_by}
use Rattle.bridge_server.specs.inner.Running.{HasLeft}
use Rattle.bridge_server.specs.declared.stopped.FrontLeft.{FrontLeft}
use Rattle.bridge_server.proofs.LaneLemmas.{lanes_of_ports}

-- ---- readers

of_map : {X Y : Type 0} (P : Y → Type 0) (f : X → Y) (xs : List X) → All P (map f xs) → All (λ x. P (f x)) xs
of_map {X} P f xs all k d low =
    subst P (get_or-map f xs k d (f d) low) (all k (f d) (subst (λ (n : ℕ). k < n) (sym (length-map xs f)) low))

lane_readers : (q : ReaderOf → Type 0) (lanes : List LaneNow) (readers : List ReaderOf)
    → map (λ (lane : LaneNow). lane.reader) lanes ≡ readers
    → All q readers → All (λ (lane : LaneNow). q lane.reader) lanes
lane_readers q lanes readers are all = of_map q (λ (lane : LaneNow). lane.reader) lanes (subst (All q) (sym are) all)

-- what holds of all holds of each at its place
at_place : {X : Type 0} (q : X → Type 0) (xs : List X) → All q xs → (k : ℕ) (x : X) → slice_get xs k ≡ Some x → q x
at_place q [] all k x at = absurd (cc (at))
at_place q (y ∷ ys) all zero x at = let same : y ≡ x = cc (at) in subst q same (all 0 x (omega arith))
at_place q (y ∷ ys) all (suc k) x at = at_place q ys (λ j d low. all (suc j) d (omega (arith, low))) k x at

-- new lanes of this name, with new readers
pub lanes_begun : (who : Asker) (many : ℕ) (publisher : Book) (start : Desk) (lanes : List LaneNow)
    (readers : List ReaderOf) → AreNew lanes → All (λ (lane : LaneNow). lane.state.who ≡ who) lanes
    → map (λ (lane : LaneNow). lane.reader) lanes ≡ readers → length readers ≡ many
    → All (λ (reader : ReaderOf). reader ≡ new_reader publisher start) readers
    → HaveBegun who many start publisher lanes
lanes_begun who many publisher start lanes readers new named are count all =
    let each = lane_readers (λ (reader : ReaderOf). reader ≡ new_reader publisher start) lanes readers are all in
    let same : length lanes ≡ many =
    sym (length-map lanes (λ (lane : LaneNow). lane.reader)) ∙ (ap length are ∙ count) in
    record {
      count = same;
      new = λ place lane at. record {
        number = (new.1 place lane at).number;
        lanes = (new.1 place lane at).lanes ∙ same;
        who = at_place (λ (l : LaneNow). l.state.who ≡ who) lanes named place lane at;
        none = (new.1 place lane at).none;
      };
      begin = λ k d low. ap (λ (r : ReaderOf). r.start) (each k d low);
      read = λ k d low. ap (λ (r : ReaderOf). r.publisher) (each k d low);
    }

-- ---- ends

as_many_ends : {N P S : Type 0} (answers : P → ℕ → Bool → Type 0) (taken : Taking S) (ports : List (PortOf P S))
    (ends : List (LaneEnd N S))
    → AllEnded answers taken ports ends
    → length (sent_by taken ends) ≡ length ports
as_many_ends answers taken [] [] ended = refl
as_many_ends answers taken [] (e ∷ es) ended = absurd ended
as_many_ends answers taken (p ∷ ps) [] ended = absurd ended
as_many_ends answers taken (p ∷ ps) (e ∷ es) ended = ap suc (as_many_ends answers taken ps es ended.1)

-- what lanes left is what their sinks took
took_all : {N S : Type 0} (taken : Taking S) (sent : List LaneSent) (ends : List (LaneEnd N S))
    → map (λ (lane : LaneSent). taken_list lane.taken) sent ≡ map (λ (end : LaneEnd N S). taken end.sink) ends
    → sent_into sent ≡ sent_by taken ends
took_all taken [] [] same = refl
took_all taken [] (e ∷ es) same = absurd (cc (same))
took_all taken (s ∷ ss) [] same = absurd (cc (same))
took_all {N} {S} taken (s ∷ ss) (e ∷ es) same =
    let head : taken_list s.taken ≡ taken e.sink = cc (same) in
    let rest : map (λ (lane : LaneSent). taken_list lane.taken) ss ≡ map (λ (end : LaneEnd N S). taken end.sink) es =
    cc (same) in
    ap (λ (all : List (Egress Global)). map sent_of all ∷ sent_into ss) head
    ∙ ap (λ (xs : List (List Sent)). map sent_of (taken e.sink) ∷ xs) (took_all taken ss es rest)

-- as many lanes have ended as began
pub as_many : {N P S : Type 0} (answers : P → ℕ → Bool → Type 0) (taken : Taking S) (who : Asker) (many : ℕ)
    (start : Desk) (publisher : Book) (feed : List (FedLane P S)) (ends : List (LaneEnd N S))
    → HaveBegun who many start publisher (lanes_in feed) → AllEnded answers taken (ports_in feed) ends
    → (length feed ≡ many) × (length ends ≡ many)
as_many {N} {P} {S} answers taken who many start publisher feed ends begun ended =
    let fed : length feed ≡ many = sym (length-map feed (λ (x : FedLane P S). x.port.lane)) ∙ begun.count in
    let ports : length (ports_in feed) ≡ many = length-map feed (λ (x : FedLane P S). x.port) ∙ fed in
    let sent : length (sent_by taken ends) ≡ length ends = length-map ends (λ end. map sent_of (taken end.sink)) in
    (fed, sym sent ∙ (as_many_ends answers taken (ports_in feed) ends ended ∙ ports))

-- lanes of this publisher have ended
pub have_ended : {N P S : Type 0} (answers : P → ℕ → Bool → Type 0) (taken : Taking S) (who : Asker) (many : ℕ)
    (start : Desk) (publisher other : Book) (feed : List (FedLane P S)) (ends : List (LaneEnd N S))
    → HaveBegun who many start publisher (lanes_in feed) → AllEnded answers taken (ports_in feed) ends
    → other ≡ publisher → HaveEnded answers taken other ends
have_ended answers taken who many start publisher other feed ends begun ended same = (
  ports_in feed,
  ended,
  subst (λ (b : Book). AllRead b (lanes_of (ports_in feed))) (sym same)
      (subst (AllRead publisher) (sym (lanes_of_ports feed)) begun.read),
)

-- lanes of this name that ended beside the log
abbrev pub ended_after : {N P S : Type 0} (answers : P → ℕ → Bool → Type 0) (taken : Taking S) (who : Asker) (many : ℕ)
    (start : Desk) (publisher : Book) (log : List EntryOf) (last : NoticeOf) (feed : List (FedLane P S))
    (ends : List (LaneEnd N S)) → HaveBegun who many start publisher (lanes_in feed) → good start ≡ true
    → IsLegal start log → Tells start publisher log last
    → (ended : AllEnded answers taken (ports_in feed) ends)
    → AllSeen last.lists answers taken (ports_in feed) ends ended
    → EndedAfter answers taken start log (ports_in feed) ends
ended_after answers taken who many start publisher log last feed ends begun first legal tells ended seen =
    let lanes = sym (lanes_of_ports feed) in
    record {
      first = first;
      legal = legal;
      lists = last.lists;
      desks = tells.1;
      new = (
        who,
        subst
            (λ (ls : List LaneNow).
            (place : ℕ) (lane : LaneNow) → slice_get ls place ≡ Some lane → IsNew who (length ls) place lane)
            lanes
            (λ place lane at. subst (λ (n : ℕ). IsNew who n place lane) (sym begun.count) (begun.new place lane at)),
      );
      begin = subst (AllBegin start) lanes begun.begin;
      ended = ended;
      seen = seen;
    }

-- what the headline says of lanes that knew no more than the notice of the log
pub one_run : {N P S : Type 0} (answers : P → ℕ → Bool → Type 0) (taken : Taking S) (sent : List LaneSent)
    (who : Asker) (many : ℕ) (start : Desk) (publisher : Book) (log : List EntryOf) (last : NoticeOf)
    (feed : List (FedLane P S)) (ends : List (LaneEnd N S))
    → map (λ (lane : LaneSent). taken_list lane.taken) sent ≡ map (λ (end : LaneEnd N S). taken end.sink) ends
    → HaveBegun who many start publisher (lanes_in feed) → good start ≡ true → IsLegal start log
    → Tells start publisher log last
    → (ended : AllEnded answers taken (ports_in feed) ends)
    → AllSeen last.lists answers taken (ports_in feed) ends ended
    → ((h : EndedAfter answers taken start log (ports_in feed) ends)
    → IsOneList (h.new).0 (length (ports_in feed)) start (calls_of log) (sent_by taken ends) (merged h))
    → (EndedAfter answers taken start log (ports_in feed) ends
    → SendByVersions start (calls_of log) (sent_by taken ends))
    → IsOneRun who start (calls_of log) (sent_into sent)
one_run {N} {P} {S} answers taken sent who many start publisher log last feed ends are begun first legal tells ended
    seen holds sends =
    let h : EndedAfter answers taken start log (ports_in feed) ends =
    ended_after answers taken who many start publisher log last feed ends begun first legal tells ended seen in
    let events = merged h in
    let took = sym (took_all taken sent ends are) in
    let places = sym (as_many_ends answers taken (ports_in feed) ends ended) in
    record {
      events = events;
      one = subst (λ (all : List (List Sent)). IsOneList who (length all) start (calls_of log) all events) took
          (subst (λ (n : ℕ). IsOneList who n start (calls_of log) (sent_by taken ends) events) places (holds h));
      by_versions = subst (SendByVersions start (calls_of log)) took (sends h);
    }

-- ---- from what was read to what was sent

-- as many drops are left as lanes
drops_left : (dropped : List ℕ) (sent : List LaneSent) → length dropped ≡ length sent
    → map (λ (l : LaneLeft). l.dropped) (lanes_left dropped sent) ≡ dropped
drops_left [] sent same = refl
drops_left (d ∷ ds) [] same = absurd (cc (same))
drops_left (d ∷ ds) (s ∷ ss) same = ap (λ (ns : List ℕ). d ∷ ns) (drops_left ds ss (cc (same)))

-- what is left of lanes is what they sent
sent_left : (dropped : List ℕ) (sent : List LaneSent) → length dropped ≡ length sent
    → sent_in (lanes_left dropped sent) ≡ sent_into sent
sent_left [] [] same = refl
sent_left [] (s ∷ ss) same = absurd (cc (same))
sent_left (d ∷ ds) [] same = absurd (cc (same))
sent_left (d ∷ ds) (s ∷ ss) same =
    ap (λ (xs : List (List Sent)). map sent_of (taken_list s.taken) ∷ xs) (sent_left ds ss (cc (same)))

-- what was asked of each lane's wire
asked_left : (dropped : List ℕ) (sent : List LaneSent) → AllByRecursion AskedForAll sent
    → AllByRecursion IsAsked (lanes_left dropped sent)
asked_left [] sent all = tt
asked_left (d ∷ ds) [] all = tt
asked_left (d ∷ ds) (s ∷ ss) all = (all.0, asked_left ds ss all.1)

known_at_end : (last : NoticeOf) (reader other : ReaderOf) → IsPrefix reader.lists last.lists
    → ◌≡◌ {A = Option ReaderOf} (Some reader) (Some other) → IsPrefix other.lists last.lists
known_at_end last reader other known at_end =
    let same : reader ≡ other = cc (at_end) in subst (λ (r : ReaderOf). IsPrefix r.lists last.lists) same known

-- what the laws say of a front that did whole rounds, and of its lanes
pub whole_run : {N P S : Type 0} (answers : P → ℕ → Bool → Type 0) (taken : Taking S) (sent : List LaneSent)
    (who : Asker) (many : ℕ) (start : Desk) (publisher : Book) (log : List EntryOf) (last : NoticeOf)
    (front : FrontOf P S) (ends : List (LaneEnd N S))
    → map (λ (lane : LaneSent). taken_list lane.taken) sent ≡ map (λ (end : LaneEnd N S). taken end.sink) ends
    → AllByRecursion AskedForAll sent → HaveBegun who many start publisher (lanes_in front.feed)
    → good start ≡ true → IsLegal start log → Tells start publisher log last
    → (ended : AllEnded answers taken (ports_in front.feed) ends)
    → AllSeen last.lists answers taken (ports_in front.feed) ends ended
    → (reader : ReaderOf) (left : FrontLeft) (has : HasLeft who start publisher front reader left)
    → IsPrefix reader.lists last.lists
    → (dropped : List ℕ) → dropped ≡ map (λ (x : FedLane P S). x.dropped) front.feed
    → ((turns : List Turn) (left : Left)
    → AreRounds (has.first).reader (Some reader) turns → HaveDone turns (has.first).history has.last
    → HasDoneNothing (has.first).history → (has.last).came ≡ left.read → (has.last).told ≡ left.told
    → (has.last).tried ≡ Some left.tried → IsFrontRun has.first (front_at has.last (Some reader)) turns left)
    → ((turns : List Turn) (done : HaveDone turns (has.first).history has.last)
    (h : EndedAfter answers taken start log (ports_in ((has.last).front).feed) ends) (lanes : List LaneLeft)
    → AreRenewed ((has.first).history.front).feed
    → map (λ (l : LaneLeft). l.dropped) lanes ≡ map (λ (x : FedLane P S). x.dropped) ((has.last).front).feed
    → sent_in lanes ≡ sent_by taken ends → AllByRecursion IsAsked lanes
    → AreLanesRun (h.new).0 start (calls_of log)
    (Input.renew ∷ given_by_turns turns (has.first).history has.last done) lanes)
    → IsWhole P S who start log (left_by left dropped sent)
whole_run {N} {P} {S} answers taken sent who many start publisher log last front ends are asked begun first legal tells
    ended seen reader left has known dropped drops front_law lanes_law =
    let moved = subst
    (λ (f : FrontOf P S).
    HaveBegun who many start publisher (lanes_in f.feed)
    × (e : AllEnded answers taken (ports_in f.feed) ends)
    × AllSeen last.lists answers taken (ports_in f.feed) ends e
    × (dropped ≡ map (λ (x : FedLane P S). x.dropped) f.feed))
    (sym has.same) (begun, ended, seen, drops) in
    let feed = ((has.last).front).feed in
    let h : EndedAfter answers taken start log (ports_in feed) ends =
    ended_after answers taken who many start publisher log last feed ends moved.0 first legal tells moved.1 moved.2 in
    let lanes = lanes_left dropped sent in
    let many_sent : length sent ≡ length ends =
    sym (length-map sent (λ (lane : LaneSent). taken_list lane.taken))
    ∙ (ap length are ∙ length-map ends (λ (end : LaneEnd N S). taken end.sink)) in
    let counts = as_many answers taken who many start publisher feed ends moved.0 moved.1 in
    let same : length dropped ≡ length sent =
    ap length moved.3
    ∙ (length-map feed (λ (x : FedLane P S). x.dropped)
    ∙ (counts.0 ∙ sym (many_sent ∙ counts.1))) in
    let nothing = (has.fresh).nothing in
    let turns = (has.ran).0 in
    let done = (has.ran).1 in
    let ran = front_law turns (left_by left dropped sent) (has.ran).2 done nothing has.read has.told has.tried in
    record {
      publisher = publisher;
      first = has.first;
      last = front_at has.last (Some reader);
      fresh = has.fresh;
      turns = turns;
      front = ran;
      lists = last.lists;
      desks = tells.1;
      knew = λ other at_end. known_at_end last reader other known at_end;
      lanes = lanes_law turns ran.done h lanes (has.fresh).feed (drops_left dropped sent same ∙ moved.3)
          (sent_left dropped sent same ∙ took_all taken sent ends are) (asked_left dropped sent asked);
    }
