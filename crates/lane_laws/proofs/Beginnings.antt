-- Lanes whose entries saw beginnings of one list.
use Rattle.std.proofs.Common.{Bool, ◌≡◌, ◌+◌, ◌≤◌, ℕ, zero, suc, List, [], ◌∷◌, ◌++◌, length, map, take}
use Rattle.std.proofs.Common.{slice_get, Some, refl, ap, sym, subst, ◌∙◌, arith}
use Rattle.std.specs.List.{AllByRecursion}
use Rattle.std.specs.Prelude.{slice_index_or}
use Rattle.std.proofs.lemmas.List.{length-map}
use Rattle.std.proofs.lemmas.Option.{slice_get_within}
use Rattle.std.proofs.Math.Seq.{take-append_seam}
use mathlib.Core.List.{IsPrefix}
use Rattle.desk_rows.specs.Desk.{Desk}
use Rattle.desk_rows.specs.Edit.{EditOf}
use Rattle.desk_edit.specs.Asked.{CallOf as Call}
use Rattle.desk_edit.specs.Calls.{no_calls, desk_now}
use Rattle.desk_calls.specs.Accepted.{after_calls}
use Rattle.published_desk.specs.Published.{after_lists}
use Rattle.published_desk.proofs.Prefixes.{prefix_trans, prefix_whole, prefix_length}
use Rattle.sender_feedback.specs.Upstream.{Asker}
use Rattle.bridge_core.specs.Sent.{Sent, sent_of}
use Rattle.bridge_core.specs.Lanes.{Visit}
use Rattle.bridge_core.specs.LaneState.{visit_of}
use Rattle.operator_desk.specs.Entry.{EntryOf}
use Rattle.operator_desk.specs.LegalLogs.{calls_of}
use Rattle.operator_desk.specs.Published.{AreDesks}
use Rattle.media_workers.specs.declared.lane_end.LaneEnd.{LaneEnd}
use Rattle.media_workers.specs.declared.parcel.Parcel.{Parcel}
use Rattle.media_workers.specs.declared.parcel.Parcel.TheVariants.{Work, End}
use Rattle.media_workers.specs.Parcels.{works}
use Rattle.media_workers.specs.LaneRuns.{LaneNow, Served, AreServed, Versioned, versioned, visits_from, all_sent}
use Rattle.media_workers.specs.Ports.{PortOf}
use Rattle.media_workers.specs.Bridges.{Taking, EndsAs, AllEnded, AreNew}
use Rattle.lane_laws.specs.Merges.{InOrder, UpTo}
use Rattle.lane_laws.specs.Visits.{desk_at, visits_by}
use Rattle.lane_laws.specs.OneList.{sent_by}
use Rattle.lane_laws.specs.Learnt.{HasNotice, HasSeen, AllSeen, HaveKnown, AllBegin, lanes_of, handled}
use Rattle.lane_laws.proofs.Merging.{lower}

-- ---- beginnings

-- each of these was handled after a beginning of the lists
abbrev AllOf : List (List EditOf) → List Served → Type 0
AllOf lists served = AllByRecursion (λ (s : Served). IsPrefix s.lists lists) served

-- of what began with a beginning of the lists, each is a beginning of the lists
later_all : (now lists : List (List EditOf)) (ss : List Served) → IsPrefix now lists → AllOf now ss → AllOf lists ss
later_all now lists [] begins all = tt
later_all now lists (s ∷ ss) begins all =
    (prefix_trans s.lists now lists all.0 begins, later_all now lists ss begins all.1)

-- what lanes saw whose readers knew a beginning of the lists at the end
pub known_seen : {N P S : Type 0} (lists : List (List EditOf)) (answers : P → ℕ → Bool → Type 0) (taken : Taking S)
    (ports : List (PortOf P S)) (ends : List (LaneEnd N S)) (ended : AllEnded answers taken ports ends)
    → HaveKnown lists ends → AllSeen lists answers taken ports ends ended
known_seen lists answers taken [] [] ended known = tt
known_seen lists answers taken [] (e ∷ es) ended known = absurd ended
known_seen lists answers taken (p ∷ ps) [] ended known = absurd ended
known_seen lists answers taken (p ∷ ps) (e ∷ es) ended known = (
  later_all e.known.lists lists ended.0.ran.served known.0 ended.0.ran.known.entries,
  known_seen lists answers taken ps es ended.1 known.1,
)

-- what was handled is a beginning of the parcels with items
handled_first : (known : List (List EditOf)) (ps last : List Parcel) (ss : List Served) → AreServed known ps ss
    → (works (ps ++ last) ≡ ps ++ works last) × (length ps ≡ length ss)
handled_first known [] last [] served = (refl, refl)
handled_first known [] last (s ∷ ss) served = absurd served
handled_first known (p ∷ ps) last [] served = absurd served
handled_first known (Work item notice ∷ ps) last (s ∷ ss) served =
    let rest = handled_first s.lists ps last ss served.1 in
    (ap (λ (xs : List Parcel). Work item notice ∷ xs) rest.0, ap suc rest.1)
handled_first known (End ∷ ps) last (s ∷ ss) served = absurd served.0

-- a lane that handled all that it was given learnt what it was told
pub all_told : {N P S : Type 0} (answers : P → ℕ → Bool → Type 0) (taken : Taking S) (port : PortOf P S)
    (end : LaneEnd N S) (ended : EndsAs answers taken port end) (lists : List (List EditOf))
    → HasNotice lists port.accepted → end.handled ≡ length port.accepted → HasNotice lists ended.ran.done
all_told answers taken port end ended lists told all =
    let ran = ended.ran in
    let first = handled_first port.lane.reader.lists ran.done ran.last ran.served ran.in_order in
    let begins : IsPrefix ran.done port.accepted =
    prefix_trans ran.done (ran.done ++ works ran.last) port.accepted (works ran.last, refl)
    (subst (λ (xs : List Parcel). IsPrefix xs port.accepted) (ap works ran.received ∙ first.0) ended.some) in
    let count : end.handled ≡ length ran.served = ran.count in
    let whole : ran.done ≡ port.accepted =
    prefix_whole ran.done port.accepted begins (omega (arith, all, count, first.1)) in
    subst (HasNotice lists) (sym whole) told

-- ---- versions

in_order : (known : List (List EditOf)) (ps : List Parcel) (ss : List Served) → AreServed known ps ss
    → InOrder (length known) (map versioned ss)
in_order known [] [] served = tt
in_order known [] (s ∷ ss) served = absurd served
in_order known (p ∷ ps) [] served = absurd served
in_order known (Work item notice ∷ ps) (s ∷ ss) served =
    (prefix_length known s.lists served.0.1, in_order s.lists ps ss served.1)
in_order known (End ∷ ps) (s ∷ ss) served = absurd served.0

up_to : (most : ℕ) (lists : List (List EditOf)) (ss : List Served) → length lists ≡ most → AllOf lists ss
    → UpTo most (map versioned ss)
up_to most lists [] is all = tt
up_to most lists (s ∷ ss) is all = (omega (arith, prefix_length s.lists lists all.0, is), up_to most lists ss is all.1)

calls_of-take : (n : ℕ) (log : List EntryOf) → calls_of (take n log) ≡ take n (calls_of log)
calls_of-take zero log = refl
calls_of-take (suc n) [] = refl
calls_of-take (suc n) (e ∷ log) = ap (λ (cs : List Call). e.call ∷ cs) (calls_of-take n log)

-- a beginning of the lists leads to the desk of its version
desk_there : (start : Desk) (log : List EntryOf) (lists begin : List (List EditOf)) → AreDesks start log lists
    → IsPrefix begin lists → after_lists start begin ≡ desk_at start (calls_of log) (length begin)
desk_there start log lists begin desks is =
    let few : length begin ≤ length log = omega (arith, prefix_length begin lists is, desks.many) in
    let first : take (length begin) lists ≡ begin = ap (take (length begin)) (sym is.1) ∙ take-append_seam begin is.0 in
    ap (after_lists start) (sym first)
    ∙ (desks.lead (length begin) few
    ∙ ap (λ (cs : List Call). desk_now (after_calls (no_calls start) cs)) (calls_of-take (length begin) log))

visits_are : (start : Desk) (log : List EntryOf) (lists : List (List EditOf)) (n : ℕ) (ss : List Served)
    → AreDesks start log lists → AllOf lists ss
    → visits_from start n ss ≡ visits_by (desk_at start (calls_of log)) n (map versioned ss)
visits_are start log lists n [] desks all = refl
visits_are start log lists n (s ∷ ss) desks all =
    ap (λ (d : Desk). visit_of (length s.lists) (n + 1) d s.input ∷ visits_from start (n + 1) ss)
    (desk_there start log lists s.lists desks all.0)
    ∙ ap
    (λ (vs : List Visit).
    visit_of (length s.lists) (n + 1) (desk_at start (calls_of log) (length s.lists)) s.input ∷ vs)
    (visits_are start log lists (n + 1) ss desks all.1)

-- ---- lanes

-- the element at an index
at_index : {X : Type 0} (xs : List X) (k : ℕ) (x d : X) → slice_get xs k ≡ Some x → slice_index_or xs k d ≡ x
at_index [] k x d at = absurd (cc (at))
at_index (y ∷ ys) zero x d at = cc (at)
at_index (y ∷ ys) (suc k) x d at = at_index ys k x d at

begins_there : (start : Desk) (lanes : List LaneNow) (k : ℕ) (lane : LaneNow) → AllBegin start lanes
    → slice_get lanes k ≡ Some lane → lane.reader.start ≡ start
begins_there start lanes k lane begin at =
    subst (λ (l : LaneNow). l.reader.start ≡ start) (at_index lanes k lane lane at)
    (begin k lane (slice_get_within lanes k lane at))

-- the lane of this place, and how it ended
pub record AtPlace {N P S : Type 0} (lists : List (List EditOf)) (answers : P → ℕ → Bool → Type 0) (taken : Taking S)
    (ports : List (PortOf P S)) (lanes : List (List Versioned)) (lane : ℕ) (end : LaneEnd N S) : Type 0 where
  pub port : PortOf P S
  pub its_lane : slice_get (lanes_of ports) lane ≡ Some port.lane
  pub ended : EndsAs answers taken port end
  pub seen : HasSeen lists answers taken port end ended
  pub items : slice_get lanes lane ≡ Some (map versioned ended.ran.served)

pub at_end : {N P S : Type 0} (lists : List (List EditOf)) (answers : P → ℕ → Bool → Type 0) (taken : Taking S)
    (ports : List (PortOf P S)) (ends : List (LaneEnd N S)) (ended : AllEnded answers taken ports ends) (lane : ℕ)
    (end : LaneEnd N S)
    → AllSeen lists answers taken ports ends ended → slice_get ends lane ≡ Some end
    → AtPlace lists answers taken ports (handled answers taken ports ends ended) lane end
at_end lists answers taken [] [] ended lane end seen at = absurd (cc (at))
at_end lists answers taken [] (e ∷ es) ended lane end seen at = absurd seen
at_end lists answers taken (p ∷ ps) [] ended lane end seen at = absurd seen
at_end {N} {P} {S} lists answers taken (p ∷ ps) (e ∷ es) ended zero end seen at =
    let same : e ≡ end = cc (at) in
    subst
    (λ (x : LaneEnd N S). AtPlace lists answers taken (p ∷ ps) (handled answers taken (p ∷ ps) (e ∷ es) ended) zero x)
    same
    record { port = p; its_lane = refl; ended = ended.0; seen = seen.0; items = refl }
at_end lists answers taken (p ∷ ps) (e ∷ es) ended (suc lane) end seen at =
    let rest = at_end lists answers taken ps es ended.1 lane end seen.1 at in
    record { port = rest.port; its_lane = rest.its_lane; ended = rest.ended; seen = rest.seen; items = rest.items }

-- what is wanted of a merged list: a lane whose items are in order and not later than the last call sends by it what it
-- sends by itself
abbrev pub SendsBy : Asker → ℕ → Desk → List Call → List (List Versioned) → (ℕ → List Sent) → Type 0
SendsBy who many start calls lanes shares =
    (lane : ℕ) (items : List Versioned) → slice_get lanes lane ≡ Some items → InOrder 0 items
    → UpTo (length calls) items
    → shares lane ≡ all_sent who lane many [] (visits_by (desk_at start calls) 0 items)

-- the items of a lane are in order, and none is later than the last call
pub items_fit : {N P S : Type 0} (lists : List (List EditOf)) (start : Desk) (log : List EntryOf)
    (answers : P → ℕ → Bool → Type 0) (taken : Taking S) (port : PortOf P S) (end : LaneEnd N S)
    (ended : EndsAs answers taken port end)
    → AreDesks start log lists → HasSeen lists answers taken port end ended
    → InOrder 0 (map versioned ended.ran.served) × UpTo (length (calls_of log)) (map versioned ended.ran.served)
items_fit lists start log answers taken port end ended desks seen =
    let ran = ended.ran in
    let known = port.lane.reader.lists in
    let many : length lists ≡ length (calls_of log) = desks.many ∙ sym (length-map log (λ (e : EntryOf). e.call)) in (
      lower 0 (length known) (map versioned ran.served) (omega arith)
          (in_order known ran.done ran.served ran.in_order),
      up_to (length (calls_of log)) lists ran.served many seen,
    )

-- what a lane sent is what it sends for its items by themselves
pub sent_itself : {N P S : Type 0} (lists : List (List EditOf)) (start : Desk) (log : List EntryOf)
    (answers : P → ℕ → Bool → Type 0) (taken : Taking S) (ports : List (PortOf P S)) (lanes : List (List Versioned))
    (lane : ℕ) (end : LaneEnd N S) (new : AreNew (lanes_of ports))
    → AreDesks start log lists → AllBegin start (lanes_of ports)
    → (here : AtPlace lists answers taken ports lanes lane end)
    → map sent_of (taken end.sink)
    ≡ all_sent new.0 lane (length ports) []
    (visits_by (desk_at start (calls_of log)) 0 (map versioned here.ended.ran.served))
sent_itself {N} {P} {S} lists start log answers taken ports lanes lane end new desks begin here =
    let ran = here.ended.ran in
    let state = here.port.lane.state in
    let is = new.1 lane here.port.lane here.its_lane in
    let visits = visits_from here.port.lane.reader.start 0 ran.served in
    ran.sends [] is.none
    ∙ (ap (λ (w : Asker). all_sent w state.lane state.lanes [] visits) is.who
    ∙ (ap (λ (k : ℕ). all_sent new.0 k state.lanes [] visits) is.number
    ∙ (ap (λ (k : ℕ). all_sent new.0 lane k [] visits) (is.lanes ∙ length-map ports (λ (p : PortOf P S). p.lane))
    ∙ (ap (λ (d : Desk). all_sent new.0 lane (length ports) [] (visits_from d 0 ran.served))
    (begins_there start (lanes_of ports) lane here.port.lane begin here.its_lane)
    ∙ ap (all_sent new.0 lane (length ports) []) (visits_are start log lists 0 ran.served desks here.seen)))))

pub sent_share : {N P S : Type 0} (lists : List (List EditOf)) (start : Desk) (log : List EntryOf)
    (answers : P → ℕ → Bool → Type 0) (taken : Taking S) (ports : List (PortOf P S)) (lanes : List (List Versioned))
    (lane : ℕ) (end : LaneEnd N S) (new : AreNew (lanes_of ports)) (shares : ℕ → List Sent)
    → AreDesks start log lists → AllBegin start (lanes_of ports)
    → SendsBy new.0 (length ports) start (calls_of log) lanes shares → AtPlace lists answers taken ports lanes lane end
    → map sent_of (taken end.sink) ≡ shares lane
sent_share lists start log answers taken ports lanes lane end new shares desks begin merged here =
    let fit = items_fit lists start log answers taken here.port end here.ended desks here.seen in
    sent_itself lists start log answers taken ports lanes lane end new desks begin here
    ∙ sym (merged lane (map versioned here.ended.ran.served) here.items fit.0 fit.1)

-- what a lane sent is what its end's sink took
pub own_end : {N S : Type 0} (taken : Taking S) (ends : List (LaneEnd N S)) (lane : ℕ) (own : List Sent)
    → slice_get (sent_by taken ends) lane ≡ Some own
    → (end : LaneEnd N S) × (slice_get ends lane ≡ Some end) × (map sent_of (taken end.sink) ≡ own)
own_end taken [] lane own at = absurd (cc (at))
own_end taken (e ∷ es) zero own at = (e, refl, cc (at))
own_end taken (e ∷ es) (suc lane) own at = own_end taken es lane own at
