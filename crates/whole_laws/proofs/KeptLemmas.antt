-- What lanes keep of what they are given.
use Rattle.std.proofs.Common.{◌≡◌, ◌∙◌, ℕ, Bool, true, false, if◌then◌else◌, List, [], ◌∷◌, ◌++◌, map, Option}
use Rattle.std.proofs.Common.{refl, ap, sym, subst, append_assoc, inl, inr}
use Rattle.std.specs.Bool.{MatchBool}
use Rattle.std.specs.List.{AllByRecursion, AllZip, FoldsTo}
use Rattle.std.proofs.lemmas.List.{append-nil, map-append}
use mathlib.Core.List.{IsPrefix}
use Rattle.published_desk.proofs.Prefixes.{prefix_trans}
use Rattle.desk_rows.specs.Desk.{Desk}
use Rattle.desk_rows.specs.Edit.{EditOf}
use Rattle.published_desk.specs.Published.{NoticeOf}
use Rattle.media_items.specs.Inputs.{Input, input_of}
use Rattle.ingress.specs.Sources.{Origin}
use Rattle.udp_wire.specs.Attempts.{Attempt}
use Rattle.media_workers.specs.declared.lane_end.LaneEnd.{LaneEnd}
use Rattle.media_workers.specs.declared.parcel.Parcel.{Parcel}
use Rattle.media_workers.specs.declared.parcel.Parcel.TheVariants.{Work, End}
use Rattle.media_workers.specs.Parcels.{item_in, works}
use Rattle.media_workers.specs.LaneRuns.{Served, AreServed, Versioned, versioned}
use Rattle.media_workers.specs.Ports.{PortOf}
use Rattle.media_workers.specs.Bridges.{Taking, EndsAs, AllEnded}
use Rattle.lane_laws.specs.Learnt.{handled}
use Rattle.media_front.specs.FedLanes.{FedLane, one_more, is_due, owing_notice, after_signal, IsFed, AreGiven}
use Rattle.media_front.specs.FedLanes.{AllAreGiven}
use Rattle.media_front.specs.FedLanes.{IsFresh, ports_in}
use Rattle.media_front.specs.Fronts.{FrontOf, HasReported}
use Rattle.media_front.specs.Waits.{OnWire, HasWaitedOnce, video_origins}
use Rattle.event_loop.specs.Turns.{Turn, History, Does, HaveDone, HasCaughtUp, owed, passed, took, lost, looked}
use Rattle.event_loop.specs.Turns.{gave_ticks, let_wait, let_some_wait, entered_desk, saw_desk, wanted_picture}
use Rattle.event_loop.specs.Turns.{chose_sources, asked_picture, made_report, judged_wake, signalled}
use Rattle.whole_laws.specs.Given.{Fed, kept, drops_among, inputs_of, HasKept, caught, ticks_at, granted_by}
use Rattle.whole_laws.specs.Given.{given_waits}
use Rattle.whole_laws.specs.Given.{given_report, given_by, given_by_turns}
use Rattle.whole_laws.specs.Whole.{HandledBeginning, AreRenewed}

-- ---- one lane

inputs_both : (xs ys : List Parcel) → inputs_of (xs ++ ys) ≡ inputs_of xs ++ inputs_of ys
inputs_both [] ys = refl
inputs_both (Work item notice ∷ xs) ys =
    ap (λ (l : List Input). input_of (item_in item) ∷ l) (inputs_both xs ys)
inputs_both (End ∷ xs) ys = inputs_both xs ys

kept_append : (xs ys : List Fed) → kept (xs ++ ys) ≡ kept xs ++ kept ys
kept_append [] ys = refl
kept_append (f ∷ xs) ys =
    let one : List Input = if f.1 then f.0 ∷ [] else [] in
    ap (λ (l : List Input). one ++ l) (kept_append xs ys) ∙ sym (append_assoc one (kept xs) (kept ys))

lost_append : (xs ys : List Fed) (n : ℕ) → drops_among (xs ++ ys) n ≡ drops_among ys (drops_among xs n)
lost_append [] ys n = refl
lost_append (f ∷ xs) ys n = lost_append xs ys (if f.1 then n else one_more n)

-- a lane that was given nothing
same_kept : {P S : Type 0} (x y : FedLane P S) → y.port.accepted ≡ x.port.accepted → y.dropped ≡ x.dropped
    → HasKept [] x y
same_kept x y accepted dropped = record {
  fed = [];
  these = refl;
  accepted = ap inputs_of accepted ∙ sym (append-nil (inputs_of x.port.accepted));
  dropped = dropped;
}

-- a lane that was given these, and then those
both_kept : {P S : Type 0} (xs ys : List Input) (a b c : FedLane P S) → HasKept xs a b → HasKept ys b c
    → HasKept (xs ++ ys) a c
both_kept xs ys a b c g h = record {
  fed = g.fed ++ h.fed;
  these = map-append (λ (f : Fed). f.0) g.fed h.fed
      ∙ (ap (λ (l : List Input). l ++ map (λ (f : Fed). f.0) h.fed) g.these
      ∙ ap (λ (l : List Input). xs ++ l) h.these);
  accepted = h.accepted
      ∙ (ap (λ (l : List Input). l ++ kept h.fed) g.accepted
      ∙ (append_assoc (inputs_of a.port.accepted) (kept g.fed) (kept h.fed)
      ∙ ap (λ (l : List Input). inputs_of a.port.accepted ++ l) (sym (kept_append g.fed h.fed))));
  dropped = h.dropped
      ∙ (ap (λ (n : ℕ). drops_among h.fed n) g.dropped ∙ sym (lost_append g.fed h.fed a.dropped));
}

one_kept : {P S : Type 0} (input : Input) (x y : FedLane P S) → IsFed input x y → HasKept (input ∷ []) x y
one_kept {P} {S} input x y (inl got) = record {
  fed = (input, true) ∷ [];
  these = refl;
  accepted =
      ap (λ (z : FedLane P S). inputs_of z.port.accepted) got.2
      ∙ (inputs_both x.port.accepted (Work got.0 x.owed ∷ [])
      ∙ ap (λ (i : Input). inputs_of x.port.accepted ++ i ∷ []) got.1);
  dropped = ap (λ (z : FedLane P S). z.dropped) got.2;
}
one_kept {P} {S} input x y (inr dropped) = record {
  fed = (input, false) ∷ [];
  these = refl;
  accepted =
      ap (λ (z : FedLane P S). inputs_of z.port.accepted) dropped ∙ sym (append-nil (inputs_of x.port.accepted));
  dropped = ap (λ (z : FedLane P S). z.dropped) dropped;
}

-- ---- all lanes

abbrev pub AllKeep : {P S : Type 0} → List Input → List (FedLane P S) → List (FedLane P S) → Type 0
AllKeep inputs old new = AllZip (HasKept inputs) old new

none_keep : {P S : Type 0} (xs : List (FedLane P S)) → AllKeep [] xs xs
none_keep [] = tt
none_keep (x ∷ xs) = (same_kept x x refl refl, none_keep xs)

no_keep : {P S : Type 0} (xs ys : List (FedLane P S)) → ys ≡ xs → AllKeep [] xs ys
no_keep {P} {S} xs ys same = subst (λ (l : List (FedLane P S)). AllKeep [] xs l) (sym same) (none_keep xs)

both_keep : {P S : Type 0} (is js : List Input) (ls ms ns : List (FedLane P S)) → AllKeep is ls ms
    → AllKeep js ms ns → AllKeep (is ++ js) ls ns
both_keep is js [] [] [] g h = tt
both_keep is js [] [] (c ∷ ns) g h = absurd h
both_keep is js [] (b ∷ ms) ns g h = absurd g
both_keep is js (a ∷ ls) [] ns g h = absurd g
both_keep is js (a ∷ ls) (b ∷ ms) [] g h = absurd h
both_keep is js (a ∷ ls) (b ∷ ms) (c ∷ ns) g h =
    (both_kept is js a b c g.0 h.0, both_keep is js ls ms ns g.1 h.1)

fed_keep : {P S : Type 0} (input : Input) (xs ys : List (FedLane P S)) → AreGiven xs input ys
    → AllKeep (input ∷ []) xs ys
fed_keep input [] [] all = tt
fed_keep input [] (y ∷ ys) all = absurd all
fed_keep input (x ∷ xs) [] all = absurd all
fed_keep input (x ∷ xs) (y ∷ ys) all = (one_kept input x y all.0, fed_keep input xs ys all.1)

all_fed_keep : {P S : Type 0} (inputs : List Input) (xs ys : List (FedLane P S)) → AllAreGiven inputs xs ys
    → AllKeep inputs xs ys
all_fed_keep [] xs ys same = no_keep xs ys (sym same)
all_fed_keep (input ∷ inputs) xs ys fed =
    both_keep (input ∷ []) inputs xs fed.0 ys (fed_keep input xs fed.0 fed.1)
    (all_fed_keep inputs fed.0 ys fed.2)

owed_keep : {P S : Type 0} (notice : NoticeOf) (xs : List (FedLane P S)) → AllKeep [] xs (map (owing_notice notice) xs)
owed_keep notice [] = tt
owed_keep notice (x ∷ xs) = (same_kept x (owing_notice notice x) refl refl, owed_keep notice xs)

signal_kept : {P S : Type 0} (due : Bool) (x : FedLane P S)
    → HasKept [] x (if due then record x { unsignalled = 0; pressed = false } else x)
signal_kept true x = same_kept x (record x { unsignalled = 0; pressed = false }) refl refl
signal_kept false x = same_kept x x refl refl

signal_keep : {P S : Type 0} (xs : List (FedLane P S)) → AllKeep [] xs (map after_signal xs)
signal_keep [] = tt
signal_keep (x ∷ xs) = (signal_kept (is_due x) x, signal_keep xs)

-- ---- turns

caught_keep : {P S : Type 0} (late : Bool) (moment : ℕ) (old new : FrontOf P S) → HasCaughtUp late moment old new
    → AllKeep (caught late moment old) old.feed new.feed
caught_keep true moment old new h = all_fed_keep (ticks_at moment old) old.feed new.feed h.given
caught_keep {P} {S} false moment old new h = no_keep old.feed new.feed (ap (λ (f : FrontOf P S). f.feed) h)

waits_keep : {P S : Type 0} (desk : Desk) (moment : ℕ) (origins : List Origin) (old new : OnWire P S)
    (waited : FoldsTo (HasWaitedOnce desk moment) old origins new)
    → AllKeep (given_waits desk moment origins old new waited) (old.0).feed (new.0).feed
waits_keep {P} {S} desk moment [] old new waited =
    no_keep (old.0).feed (new.0).feed (ap (λ (w : OnWire P S). (w.0).feed) (sym waited))
waits_keep desk moment (o ∷ os) old new waited =
    both_keep _ (given_waits desk moment os waited.0 new waited.2) (old.0).feed (waited.0.0).feed (new.0).feed
    (all_fed_keep _ (old.0).feed (waited.0.0).feed waited.1.waited.handled.items)
    (waits_keep desk moment os waited.0 new waited.2)

report_keep : {P S : Type 0} (due : Bool) (desk : Desk) (now : ℕ) (before after : Option (List Attempt))
    (old new : FrontOf P S)
    → MatchBool due (HasReported desk now old new before after) ((new ≡ old) × (after ≡ before))
    → AllKeep (given_report due now) old.feed new.feed
report_keep true desk now before after old new made = fed_keep (Input.report now) old.feed new.feed made.given
report_keep {P} {S} false desk now before after old new same =
    no_keep old.feed new.feed (ap (λ (f : FrontOf P S). f.feed) same.0)

as_before : {P S : Type 0} (old new : History P S) → new.front ≡ old.front → AllKeep [] old.front.feed new.front.feed
as_before {P} {S} old new same = no_keep old.front.feed new.front.feed (ap (λ (f : FrontOf P S). f.feed) same)

turn_keeps : {P S : Type 0} (t : Turn) (old new : History P S) (did : Does old t new)
    → AllKeep (given_by t old new did) old.front.feed new.front.feed
turn_keeps {P} {S} (owed notice) old new did =
    subst (λ (h : History P S). AllKeep [] old.front.feed h.front.feed) (sym did) (owed_keep notice old.front.feed)
turn_keeps {P} {S} (passed came) old new did = as_before old new (ap (λ (h : History P S). h.front) did)
turn_keeps (took late arrival outcome ended) old new did =
    both_keep (caught late arrival.moment old.front) _ old.front.feed did.mid.feed new.front.feed
    (caught_keep late arrival.moment old.front did.mid did.time.caught)
    (all_fed_keep _ did.mid.feed new.front.feed did.takes.handled.items)
turn_keeps {P} {S} (lost late arrival) old new did =
    subst (λ (l : List (FedLane P S)). AllKeep (caught late arrival.moment old.front) old.front.feed l)
    (sym (ap (λ (f : FrontOf P S). f.feed) did.same))
    (caught_keep late arrival.moment old.front did.mid did.time.caught)
turn_keeps {P} {S} (looked moment) old new did = as_before old new (ap (λ (h : History P S). h.front) did.same)
turn_keeps (gave_ticks due moment) old new did =
    all_fed_keep (ticks_at moment old.front) old.front.feed new.front.feed did.given.given
turn_keeps (let_wait desk moment) old new did =
    waits_keep desk moment (video_origins desk) (old.front, old.tried) (new.front, new.tried) did.waited
turn_keeps {P} {S} (let_some_wait desk moment) old new did =
    subst
    (λ (l : List (FedLane P S)).
    AllKeep (given_by (let_some_wait desk moment) old new did) old.front.feed l)
    (sym (ap (λ (f : FrontOf P S). f.feed) did.waited.unfed))
    (waits_keep desk moment did.waited.first (old.front, old.tried) (did.waited.behind, new.tried) did.waited.waited)
turn_keeps {P} {S} (entered_desk desk) old new did = as_before old new (ap (λ (h : History P S). h.front) did)
turn_keeps {P} {S} (saw_desk later version desk moment) old new did =
    as_before old new (ap (λ (h : History P S). h.front) did.same)
turn_keeps {P} {S} (wanted_picture s m) old new did = as_before old new (ap (λ (h : History P S). h.front) did)
turn_keeps {P} {S} (chose_sources m all) old new did = as_before old new (ap (λ (h : History P S). h.front) did.same)
turn_keeps {P} {S} (asked_picture o moment sent) old new did =
    no_keep old.front.feed new.front.feed (ap (λ (f : FrontOf P S). f.feed) did.asked.same)
turn_keeps (made_report due desk moment) old new did =
    report_keep due desk moment old.tried new.tried old.front new.front did.made
turn_keeps {P} {S} (judged_wake m raised) old new did = as_before old new (ap (λ (h : History P S). h.front) did.same)
turn_keeps {P} {S} signalled old new did =
    subst (λ (h : History P S). AllKeep [] old.front.feed h.front.feed) (sym did) (signal_keep old.front.feed)

pub turns_keep : {P S : Type 0} (turns : List Turn) (old new : History P S) (done : HaveDone turns old new)
    → AllKeep (given_by_turns turns old new done) old.front.feed new.front.feed
turns_keep {P} {S} [] old new done =
    no_keep old.front.feed new.front.feed (ap (λ (h : History P S). h.front.feed) (sym done))
turns_keep (t ∷ ts) old new done =
    both_keep (given_by t old done.0 done.1) (given_by_turns ts done.0 new done.2) old.front.feed done.0.front.feed
    new.front.feed (turn_keeps t old done.0 done.1) (turns_keep ts done.0 new done.2)

-- ---- what a lane handled

inputs_works : (ps : List Parcel) → inputs_of (works ps) ≡ inputs_of ps
inputs_works [] = refl
inputs_works (Work item notice ∷ ps) = ap (λ (l : List Input). input_of (item_in item) ∷ l) (inputs_works ps)
inputs_works (End ∷ ps) = inputs_works ps

served_inputs : (known : List (List EditOf)) (ps : List Parcel) (ss : List Served) → AreServed known ps ss
    → inputs_of ps ≡ map (λ (v : Versioned). v.input) (map versioned ss)
served_inputs known [] [] served = refl
served_inputs known [] (s ∷ ss) served = absurd served
served_inputs known (p ∷ ps) [] served = absurd served
served_inputs known (Work item notice ∷ ps) (s ∷ ss) served =
    ap (λ (i : Input). i ∷ inputs_of ps) (sym served.0.0)
    ∙ ap (λ (l : List Input). s.input ∷ l) (served_inputs s.lists ps ss served.1)
served_inputs known (End ∷ ps) (s ∷ ss) served = absurd served.0

pub handled_begins : {N P S : Type 0} (answers : P → ℕ → Bool → Type 0) (taken : Taking S) (port : PortOf P S)
    (end : LaneEnd N S) (ended : EndsAs answers taken port end)
    → IsPrefix (map (λ (v : Versioned). v.input) (map versioned ended.ran.served)) (inputs_of port.accepted)
handled_begins answers taken port end ended =
    let ran = ended.ran in
    let items = map (λ (v : Versioned). v.input) (map versioned ran.served) in
    let received : inputs_of (ran.done ++ ran.last) ≡ items ++ inputs_of ran.last =
    inputs_both ran.done ran.last
    ∙ ap (λ (l : List Input). l ++ inputs_of ran.last)
    (served_inputs port.lane.reader.lists ran.done ran.served ran.in_order) in
    let parcels = ran.done ++ ran.last in
    let first : IsPrefix (works parcels) port.accepted =
    subst (λ (l : List Parcel). IsPrefix (works l) port.accepted) ran.received ended.some in
    let all : inputs_of parcels ++ inputs_of first.0 ≡ inputs_of port.accepted =
    ap (λ (l : List Input). l ++ inputs_of first.0) (sym (inputs_works parcels))
    ∙ (sym (inputs_both (works parcels) first.0) ∙ ap inputs_of first.1) in (
      inputs_of ran.last ++ inputs_of first.0,
      sym (append_assoc items (inputs_of ran.last) (inputs_of first.0))
          ∙ (ap (λ (l : List Input). l ++ inputs_of first.0) (sym received) ∙ all),
    )

-- ---- from what turns gave to what lanes handled

one_begins : {N P S : Type 0} (answers : P → ℕ → Bool → Type 0) (taken : Taking S) (is : List Input) (f x : FedLane P S)
    (end : LaneEnd N S) (ended : EndsAs answers taken x.port end) → IsFresh f → HasKept is f x
    → HandledBeginning is x.dropped (map versioned ended.ran.served)
one_begins {N} {P} {S} answers taken is f x end ended fresh k =
    let all : inputs_of x.port.accepted ≡ kept k.fed =
    k.accepted ∙ ap (λ (z : FedLane P S). inputs_of z.port.accepted ++ kept k.fed) fresh in
    record {
      fed = k.fed;
      these = k.these;
      count = k.dropped ∙ ap (λ (z : FedLane P S). drops_among k.fed z.dropped) fresh;
      first = subst
          (λ (l : List Input). IsPrefix (map (λ (v : Versioned). v.input) (map versioned ended.ran.served)) l) all
          (handled_begins answers taken x.port end ended);
    }

pub all_begin : {N P S : Type 0} (answers : P → ℕ → Bool → Type 0) (taken : Taking S) (is : List Input)
    (fs xs : List (FedLane P S)) (es : List (LaneEnd N S)) (ended : AllEnded answers taken (ports_in xs) es)
    → AllByRecursion IsFresh fs → AllKeep is fs xs
    → AllZip (λ (x : FedLane P S) (items : List Versioned). HandledBeginning is x.dropped items) xs
    (handled answers taken (ports_in xs) es ended)
all_begin answers taken is [] [] [] ended fresh keep = tt
all_begin answers taken is [] [] (e ∷ es) ended fresh keep = absurd ended
all_begin answers taken is [] (x ∷ xs) es ended fresh keep = absurd keep
all_begin answers taken is (f ∷ fs) [] es ended fresh keep = absurd keep
all_begin answers taken is (f ∷ fs) (x ∷ xs) [] ended fresh keep = absurd ended
all_begin answers taken is (f ∷ fs) (x ∷ xs) (e ∷ es) ended fresh keep = (
  one_begins answers taken is f x e ended.0 fresh.0 keep.0,
  all_begin answers taken is fs xs es ended.1 fresh.1 keep.1,
)

pub turns_begin : {N P S : Type 0} (answers : P → ℕ → Bool → Type 0) (taken : Taking S) (turns : List Turn)
    (first last : History P S) (done : HaveDone turns first last) (es : List (LaneEnd N S))
    (ended : AllEnded answers taken (ports_in last.front.feed) es) → AreRenewed first.front.feed
    → AllZip (λ (x : FedLane P S) (items : List Versioned).
    HandledBeginning (Input.renew ∷ given_by_turns turns first last done) x.dropped items) last.front.feed
    (handled answers taken (ports_in last.front.feed) es ended)
turns_begin answers taken turns first last done es ended renewed =
    all_begin answers taken (Input.renew ∷ given_by_turns turns first last done) renewed.fresh last.front.feed es ended
    renewed.are
    (both_keep (Input.renew ∷ []) (given_by_turns turns first last done) renewed.fresh first.front.feed last.front.feed
    (fed_keep Input.renew renewed.fresh first.front.feed renewed.given) (turns_keep turns first last done))
