-- Turns that ask for pictures in time.
use Rattle.std.proofs.Common.{◌≡◌, ◌≤◌, ℕ, Bool, true, false, List, [], ◌∷◌, ◌++◌, Option, Some, None}
use Rattle.std.proofs.Common.{refl, sym, subst, inl, inr, arith}
use Rattle.std.specs.List.{AllByRecursion, flat_map}
use Rattle.std.proofs.lemmas.List.Concat.{flat_map-append}
use Rattle.rtp_codec.specs.declared.address.Address.{Address}
use Rattle.desk_rows.specs.Desk.{Desk}
use Rattle.picture_requests.specs.declared.source.VideoSource.{VideoSource}
use Rattle.picture_requests.specs.Requests.{RequestsOf}
use Rattle.picture_requests.specs.Steps.{RequestStep, see, want, ask, AreInOrder, IsAskedInTime}
use Rattle.picture_requests.proofs.Apart.{in_time_both, StandsOnce, once_steps}
use Rattle.event_loop.specs.Moments.{RiseFrom}
use Rattle.event_loop.specs.Turns.{Turn, History, Does, HaveDone, took, wanted_picture, asked_picture}
use Rattle.event_loop.specs.Shapes.{AsksFirst, IsTaken, IsPassed, AreAllRead, found_nothing}
use Rattle.event_loop.specs.Tries.{moments_in}
use Rattle.event_loop.specs.Asking.{steps_in}
use Rattle.event_loop.proofs.AskingLemmas.{requests_by_one, requests_by_all}

-- ---- moments

-- the moment that was told last
abbrev pub last_told : ℕ → List ℕ → ℕ
last_told now [] = now
last_told now (moment ∷ moments) = last_told moment moments

abbrev pub told : ℕ → Turn → ℕ
told now t = last_told now (moments_in t)

-- These steps are at this moment.
abbrev pub AreAt : ℕ → List RequestStep → Type 0
AreAt now [] = Unit {0}
AreAt now (see desk moment ∷ steps) = (moment ≡ now) × AreAt now steps
AreAt now (want source moment ∷ steps) = (moment ≡ now) × AreAt now steps
AreAt now (ask source moment ∷ steps) = (moment ≡ now) × AreAt now steps

-- Each step is at the moment that was told last, from this one to that one.
abbrev pub Timed : ℕ → List Turn → ℕ → Type 0
Timed now [] next = now ≡ next
Timed now (t ∷ ts) next = AreAt (told now t) (steps_in t) × Timed (told now t) ts next

timed_both : (xs ys : List Turn) (now mid next : ℕ) → Timed now xs mid → Timed mid ys next → Timed now (xs ++ ys) next
timed_both [] ys now mid next these those = subst (λ (n : ℕ). Timed n ys next) (sym these) those
timed_both (x ∷ xs) ys now mid next these those =
    (these.0, timed_both xs ys (told now x) mid next these.1 those)

rise_parts : (now : ℕ) (xs ys : List ℕ) → RiseFrom now (xs ++ ys)
    → (now ≤ last_told now xs) × RiseFrom (last_told now xs) ys
rise_parts now [] ys rise = (omega (arith), rise)
rise_parts now (x ∷ xs) ys rise =
    let rest = rise_parts x xs ys rise.1 in
    (omega (arith, rise.0, rest.0), rest.1)

order_from : (now next : ℕ) (steps : List RequestStep) → now ≤ next → AreInOrder next steps → AreInOrder now steps
order_from now next [] low order = tt
order_from now next (see desk moment ∷ steps) low order = (omega (arith, low, order.0), order.1)
order_from now next (want source moment ∷ steps) low order = (omega (arith, low, order.0), order.1)
order_from now next (ask source moment ∷ steps) low order = (omega (arith, low, order.0), order.1)

order_both : (now next : ℕ) (xs ys : List RequestStep) → now ≤ next → AreAt next xs → AreInOrder next ys
    → AreInOrder now (xs ++ ys)
order_both now next [] ys low at order = order_from now next ys low order
order_both now next (see desk moment ∷ xs) ys low at order =
    (omega (arith, low, at.0), order_both moment next xs ys (omega (arith, at.0)) at.1 order)
order_both now next (want source moment ∷ xs) ys low at order =
    (omega (arith, low, at.0), order_both moment next xs ys (omega (arith, at.0)) at.1 order)
order_both now next (ask source moment ∷ xs) ys low at order =
    (omega (arith, low, at.0), order_both moment next xs ys (omega (arith, at.0)) at.1 order)

pub in_order : (turns : List Turn) (now next : ℕ) → RiseFrom now (flat_map moments_in turns) → Timed now turns next
    → AreInOrder now (flat_map steps_in turns)
in_order [] now next rise timed = tt
in_order (t ∷ ts) now next rise timed =
    let parts = rise_parts now (moments_in t) (flat_map moments_in ts) rise in
    order_both now (told now t) (steps_in t) (flat_map steps_in ts) parts.0 timed.0
    (in_order ts (told now t) next parts.1 timed.1)

-- ---- turns

pub done_parts : {P S : Type 0} (xs ys : List Turn) (a c : History P S) → HaveDone (xs ++ ys) a c
    → (b : History P S) × HaveDone xs a b × HaveDone ys b c
done_parts [] ys a c done = (a, refl, done)
done_parts (x ∷ xs) ys a c done =
    let rest = done_parts xs ys done.0 c done.2 in
    (rest.0, (done.0, done.1, rest.1), rest.2)

-- The turns ask this source in time, from this moment to that one.
abbrev pub Fits : {P S : Type 0} → VideoSource → ℕ → List Turn → ℕ → History P S → Type 0
Fits s now turns next old =
    Timed now turns next × IsAskedInTime s old.kept.pictures false (flat_map steps_in turns)

-- the same up to some moment
abbrev pub FitsOn : {P S : Type 0} → VideoSource → ℕ → List Turn → History P S → Type 0
FitsOn s now turns old = (next : ℕ) × Fits s now turns next old

pub fits_first : {P S : Type 0} (s : VideoSource) (t : Turn) (ts : List Turn) (now next : ℕ) (a b : History P S)
    → Does a t b → AreAt (told now t) (steps_in t) → IsAskedInTime s a.kept.pictures false (steps_in t)
    → Fits s (told now t) ts next b → Fits s now (t ∷ ts) next a
fits_first s t ts now next a b d at fair rest = (
  (at, rest.0),
  in_time_both s a.kept.pictures false (steps_in t) (flat_map steps_in ts) fair
      (subst (λ (r : RequestsOf). IsAskedInTime s r false (flat_map steps_in ts)) (requests_by_one t a b d) rest.1),
)

pub fits_both : {P S : Type 0} (s : VideoSource) (xs ys : List Turn) (now mid next : ℕ) (a b : History P S)
    → HaveDone xs a b → Fits s now xs mid a → Fits s mid ys next b → Fits s now (xs ++ ys) next a
fits_both s xs ys now mid next a b done these those = (
  timed_both xs ys now mid next these.0 those.0,
  subst (λ (l : List RequestStep). IsAskedInTime s a.kept.pictures false l) (sym (flat_map-append steps_in xs ys))
      (in_time_both s a.kept.pictures false (flat_map steps_in xs) (flat_map steps_in ys) these.1
      (subst (λ (r : RequestsOf). IsAskedInTime s r false (flat_map steps_in ys)) (requests_by_all xs a b done)
      those.1)),
)

-- what waits stands there once, later too
pub once_on : {P S : Type 0} (s : VideoSource) (turns : List Turn) (a b : History P S) → HaveDone turns a b
    → StandsOnce s a.kept.pictures.waiting → StandsOnce s b.kept.pictures.waiting
once_on s turns a b done once =
    subst (λ (r : RequestsOf). StandsOnce s r.waiting) (sym (requests_by_all turns a b done))
    (once_steps s (flat_map steps_in turns) a.kept.pictures once)

-- ---- reads

first_fits : {P S : Type 0} (s : VideoSource) (from : Address) (moment : ℕ) (ended : Option ℕ) (turns : List Turn)
    (old : History P S)
    → AsksFirst from moment ended turns → Fits s moment turns moment old
first_fits s from moment None turns old is =
    subst (λ (l : List Turn). Fits s moment l moment old) (sym is) (refl, tt)
first_fits s from moment (Some ssrc) turns old is =
    subst (λ (l : List Turn). Fits s moment l moment old) (sym is.1) (by is.0)
  where
    by : (sent : Bool)
        → Fits s moment
        (wanted_picture (record { ssrc = ssrc; ip = from.ip; port = from.port }) moment
        ∷ asked_picture (record { address = from; ssrc = ssrc }) moment sent ∷ []) moment old
    by true = (((refl, tt), ((refl, tt), refl)), ((λ same. inl same), tt))
    by false = (((refl, tt), (tt, refl)), tt)

pub taken_fits : {P S : Type 0} (s : VideoSource) (desk : Desk) (turns : List Turn) (now : ℕ) (old new : History P S)
    → HaveDone turns old new → IsTaken desk turns → FitsOn s now turns old
taken_fits {P} {S} s desk turns now old new done (inl is) =
    let turn = took is.late is.arrival is.outcome is.ended in
    let did = subst (λ (l : List Turn). HaveDone l old new) is.are done in (
      (is.arrival).moment,
      subst (λ (l : List Turn). Fits s now l (is.arrival).moment old) (sym is.are)
          (fits_first s turn is.asked now (is.arrival).moment old did.0 did.1 tt tt
          (first_fits s (is.arrival).from (is.arrival).moment is.ended is.asked did.0 is.first)),
    )
taken_fits s desk turns now old new done (inr is) =
    (now, subst (λ (l : List Turn). Fits s now l now old) (sym is) ((tt, refl), tt))

pub passed_fits : {P S : Type 0} (s : VideoSource) (turns : List Turn) (now : ℕ) (old new : History P S)
    → HaveDone turns old new → IsPassed turns → FitsOn s now turns old
passed_fits s turns now old new done is =
    (now, subst (λ (l : List Turn). Fits s now l now old) (sym is.2) ((tt, refl), tt))

-- each of these fits
abbrev EachFits : (P S : Type 0) → VideoSource → (List Turn → Type 0) → Type 0
EachFits P S s Is =
    (turns : List Turn) (now : ℕ) (old new : History P S) → HaveDone turns old new → Is turns → FitsOn s now turns old

reads_fit : {P S : Type 0} (s : VideoSource) (Is : List Turn → Type 0) → EachFits P S s Is
    → (reads : List (List Turn)) (now : ℕ) (old new : History P S)
    → HaveDone (flat_map (λ (l : List Turn). l) reads) old new → AllByRecursion Is reads
    → FitsOn s now (flat_map (λ (l : List Turn). l) reads) old
reads_fit s Is each [] now old new done all = (now, (refl, tt))
reads_fit s Is each (one ∷ reads) now old new done all =
    let rest = flat_map (λ (l : List Turn). l) reads in
    let parts = done_parts one rest old new done in
    let first = each one now old parts.0 parts.1 all.0 in
    let others = reads_fit s Is each reads first.0 parts.0 new parts.2 all.1 in
    (others.0, fits_both s one rest now first.0 others.0 old parts.0 parts.1 first.1 others.1)

dry_fits : {P S : Type 0} (s : VideoSource) (dry : Bool) (now : ℕ) (old : History P S)
    → Fits s now (found_nothing dry) now old
dry_fits s true now old = ((tt, refl), tt)
dry_fits s false now old = (refl, tt)

pub all_fit : {P S : Type 0} (s : VideoSource) (Is : List Turn → Type 0) → EachFits P S s Is
    → (turns : List Turn) (now : ℕ) (old new : History P S) → HaveDone turns old new → AreAllRead Is turns
    → FitsOn s now turns old
all_fit s Is each turns now old new done read =
    let reads = flat_map (λ (l : List Turn). l) read.reads in
    let last = found_nothing read.dry in
    let parts = done_parts reads last old new (subst (λ (l : List Turn). HaveDone l old new) read.are done) in
    let first = reads_fit s Is each read.reads now old parts.0 parts.1 read.each in (
      first.0,
      subst (λ (l : List Turn). Fits s now l first.0 old) (sym read.are)
          (fits_both s reads last now first.0 first.0 old parts.0 parts.1 first.1
          (dry_fits s read.dry first.0 parts.0)),
    )
