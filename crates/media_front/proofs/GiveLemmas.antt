-- A parcel for a lane.
use Rattle.std.proofs.Common.{◌≡◌, ◌<◌, ℕ, zero, suc, Bool, true, false, List, [], ◌∷◌, length, map, set, get_or}
use Rattle.std.proofs.Common.{Option, Some, IfSome, Result, Ok, Err, OnOk, IfErr, refl, ap, sym, subst, ◌∙◌, arith, inl}
use Rattle.std.proofs.Common.{inr, length-set}
use Rattle.std.specs.Prelude.{slice_get, slice_set, is_ok, ◌||◌, if◌then◌else◌, nat_le}
use Rattle.std.proofs.lemmas.List.Elements.{All-set}
use Rattle.logbook.specs.Pages.{Book}
use Rattle.published_desk.specs.Published.{NoticeOf}
use Rattle.media_items.specs.Inputs.{input_of}
use Rattle.media_workers.specs.declared.lane_item.LaneItem.{LaneItem}
use Rattle.media_workers.specs.declared.parcel.Parcel.{Parcel}
use Rattle.media_workers.specs.declared.parcel.Parcel.TheVariants.{Work}
use Rattle.media_workers.specs.Parcels.{item_in}
use Rattle.media_workers.specs.Ports.{PortOf, accept}
use Rattle.media_front.specs.declared.lane_status.LaneStatus.{LaneStatus}
use Rattle.media_front.specs.Signals.{is_pressing, many_parcels}
use Rattle.media_front.specs.FedLanes.{FedLane, accepting, dropping, after_signal, IsFed}
use Rattle.media_front.specs.inner.Statuses.{counted, owing, status_after_signal, lane_by, lanes_by, AreOf}
use Rattle.media_front.proofs.PlaceLemmas.{beside_at, beside_set, set_same_at, read_at, All_read, found}

accepted_at : {P S : Type 0} (old : List (PortOf P S)) (ts : List LaneStatus) (lane : ℕ) (p : PortOf P S)
    (t : LaneStatus) (item : LaneItem)
    → lanes_by (set old lane (accept (Work item t.owed) p))
    (set ts lane (counted true (is_pressing (input_of (item_in item))) t))
    ≡ set (lanes_by old ts) lane (accepting item (lane_by p t))
accepted_at {P} {S} old ts lane p t item =
    beside_set lane_by old ts lane (accept (Work item t.owed) p)
    (counted true (is_pressing (input_of (item_in item))) t)

dropped_at : {P S : Type 0} (old : List (PortOf P S)) (ts : List LaneStatus) (lane : ℕ) (p : PortOf P S)
    (presses : Bool) (t : LaneStatus)
    → slice_get old lane ≡ Some p
    → lanes_by old (set ts lane (counted false presses t)) ≡ set (lanes_by old ts) lane (dropping (lane_by p t))
dropped_at {P} {S} old ts lane p presses t at =
    ap (λ (ps : List (PortOf P S)). lanes_by ps (set ts lane (counted false presses t)))
    (sym (set_same_at old lane p at))
    ∙ beside_set lane_by old ts lane p (counted false presses t)

-- a parcel that was dropped counts as one
pub dropped_one : {P S : Type 0} (old : List (PortOf P S)) (ts : List LaneStatus) (lane : ℕ) (presses : Bool)
    (u : LaneStatus)
    → lane < length ts → u ≡ get_or ts lane u
    → (x : FedLane P S) → slice_get (lanes_by old ts) lane ≡ Some x
    → lanes_by old (set ts lane (counted false presses u)) ≡ slice_set (lanes_by old ts) lane (dropping x)
dropped_one {P} {S} old ts lane presses u low here x at =
    let parts = beside_at lane_by old ts lane x at in
    let v = parts.1 in
    let second : u ≡ v = cc (read_at ts lane u low here, parts.3) in
    ap (λ (w : LaneStatus). lanes_by old (set ts lane (counted false presses w))) second
    ∙ (dropped_at old ts lane parts.0 presses v parts.2
    ∙ ap (λ (z : FedLane P S). set (lanes_by old ts) lane (dropping z)) parts.4)

-- a parcel that was pushed was accepted, or comes back
pub given_one : {P S : Type 0} (old new : List (PortOf P S)) (ts : List LaneStatus) (lane : ℕ) (item : LaneItem)
    (notice : Option NoticeOf) (t u : LaneStatus) (accepted presses : Bool)
    (push : Result (Unit {0}) Parcel) → lane < length ts → t ≡ get_or ts lane t → u ≡ get_or ts lane u → notice ≡ t.owed
    → presses ≡ is_pressing (input_of (item_in item)) → accepted ≡ is_ok push
    → OnOk push ((port : PortOf P S) → slice_get old lane ≡ Some port
    → (port.closed ≡ false) × (new ≡ slice_set old lane (accept (Work item notice) port)))
    → IfErr push (λ (back : Parcel). (back ≡ Work item notice) × (new ≡ old))
    → (x : FedLane P S) → slice_get (lanes_by old ts) lane ≡ Some x
    → (y : FedLane P S) × IsFed (input_of (item_in item)) x y
    × (lanes_by new (set ts lane (counted accepted presses u)) ≡ slice_set (lanes_by old ts) lane y)
given_one {P} {S} old new ts lane item notice t u accepted presses (Ok k) low is here owed press was ok err x at =
    let parts = beside_at lane_by old ts lane x at in
    let p = parts.0 in
    let v = parts.1 in
    let first : t ≡ v = cc (read_at ts lane t low is, parts.3) in
    let second : u ≡ v = cc (read_at ts lane u low here, parts.3) in
    let now : new ≡ slice_set old lane (accept (Work item v.owed) p) =
    (ok p parts.2).1
    ∙ (ap (λ (o : Option NoticeOf). slice_set old lane (accept (Work item o) p)) owed
    ∙ ap (λ (w : LaneStatus). slice_set old lane (accept (Work item w.owed) p)) first) in
    let all : lanes_by new (set ts lane (counted accepted presses u))
    ≡ set (lanes_by old ts) lane (accepting item (lane_by p v)) =
    ap (λ (ps : List (PortOf P S)). lanes_by ps (set ts lane (counted accepted presses u))) now
    ∙ (ap
    (λ (b : Bool). lanes_by (slice_set old lane (accept (Work item v.owed) p)) (set ts lane (counted b presses u))) was
    ∙ (ap (λ (b : Bool). lanes_by (slice_set old lane (accept (Work item v.owed) p)) (set ts lane (counted true b u)))
    press
    ∙ (ap
    (λ (w : LaneStatus).
    lanes_by (slice_set old lane (accept (Work item v.owed) p))
    (set ts lane (counted true (is_pressing (input_of (item_in item))) w)))
    second
    ∙ accepted_at old ts lane p v item))) in (
      accepting item x,
      inl (item, refl, refl),
      all ∙ ap (λ (z : FedLane P S). set (lanes_by old ts) lane (accepting item z)) parts.4,
    )
given_one {P} {S} old new ts lane item notice t u accepted presses (Err back) low is here owed press was ok err x at = (
  dropping x,
  inr refl,
  ap (λ (ps : List (PortOf P S)). lanes_by ps (set ts lane (counted accepted presses u))) err.1
      ∙ (ap (λ (b : Bool). lanes_by old (set ts lane (counted b presses u))) was
      ∙ dropped_one old ts lane presses u low here x at),
)

-- there are as many lanes as before
pub pushed_length : {P S : Type 0} (old new : List (PortOf P S)) (lane : ℕ) (parcel : Parcel)
    (push : Result (Unit {0}) Parcel)
    → lane < length old
    → OnOk push ((port : PortOf P S) → slice_get old lane ≡ Some port
    → (port.closed ≡ false) × (new ≡ slice_set old lane (accept parcel port)))
    → IfErr push (λ (back : Parcel). (back ≡ parcel) × (new ≡ old)) → length new ≡ length old
pushed_length old new lane parcel (Ok k) low ok err =
    let here = found old lane low in
    ap length (ok here.0 here.1).1 ∙ length-set old lane (accept parcel here.0)
pushed_length old new lane parcel (Err back) low ok err = ap length err.1

-- what is owed is of the publisher, as before
pub counted_in_book : (book : Book) (ts : List LaneStatus) (lane : ℕ) (u : LaneStatus) (accepted presses : Bool)
    → lane < length ts → u ≡ get_or ts lane u → AreOf book ts → AreOf book (set ts lane (counted accepted presses u))
counted_in_book book ts lane u true presses low is all =
    All-set (λ (t : LaneStatus). IfSome t.owed (λ (n : NoticeOf). n.publisher ≡ book)) ts lane (counted true presses u)
    (tt {0}) all
counted_in_book book ts lane u false presses low is all =
    All-set (λ (t : LaneStatus). IfSome t.owed (λ (n : NoticeOf). n.publisher ≡ book)) ts lane (counted false presses u)
    (All_read (λ (t : LaneStatus). IfSome t.owed (λ (n : NoticeOf). n.publisher ≡ book)) ts lane u low is all) all

pub owing_of : (book : Book) (notice : NoticeOf) (ts : List LaneStatus) → notice.publisher ≡ book
    → AreOf book (map (owing notice) ts)
owing_of book notice [] is k d low = absurd (omega (arith, low))
owing_of book notice (t ∷ ts) is zero d low = is
owing_of book notice (t ∷ ts) is (suc k) d low = owing_of book notice ts is k d (omega (arith, low))

after_signal_owed : (due : Bool) (t : LaneStatus)
    → (if due then record { owed = t.owed; unsignalled = 0; pressed = false; given = t.given; dropped = t.dropped }
    else t).owed ≡ t.owed
after_signal_owed true t = refl
after_signal_owed false t = refl

-- a signal that is raised changes nothing that is owed
still_owed : (t : LaneStatus) → (status_after_signal t).owed ≡ t.owed
still_owed t = after_signal_owed (t.pressed || nat_le many_parcels t.unsignalled) t

pub after_signal_of : (book : Book) (ts : List LaneStatus) → AreOf book ts → AreOf book (map status_after_signal ts)
after_signal_of book [] all k d low = absurd (omega (arith, low))
after_signal_of book (t ∷ ts) all zero d low =
    subst (λ (o : Option NoticeOf). IfSome o (λ (n : NoticeOf). n.publisher ≡ book)) (sym (still_owed t))
    (all 0 t (omega arith))
after_signal_of book (t ∷ ts) all (suc k) d low =
    after_signal_of book ts (λ j e less. all (suc j) e (omega (arith, less))) k d (omega (arith, low))

-- a lane whose signal is raised, if it is due, is the same by its parts
after_signal_if : {P S : Type 0} (due : Bool) (p : PortOf P S) (t : LaneStatus)
    → lane_by p
    (if due then record { owed = t.owed; unsignalled = 0; pressed = false; given = t.given; dropped = t.dropped }
    else t)
    ≡ (if due then record (lane_by p t) { unsignalled = 0; pressed = false } else lane_by p t)
after_signal_if true p t = refl
after_signal_if false p t = refl

pub after_signal_by : {P S : Type 0} (p : PortOf P S) (t : LaneStatus)
    → lane_by p (status_after_signal t) ≡ after_signal (lane_by p t)
after_signal_by p t = after_signal_if (t.pressed || nat_le many_parcels t.unsignalled) p t
