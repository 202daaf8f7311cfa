-- Moments that never go back.
use Rattle.std.proofs.Common.{◌≡◌, ◌≤◌, ℕ, List, [], ◌∷◌, ◌++◌, map, max, refl, ap, sym, subst, ◌∙◌}
use Rattle.std.proofs.Common.{append_assoc, arith}
use Rattle.std.specs.List.{flat_map}
use Rattle.std.proofs.lemmas.Bool.Decides.{nat_tests}
use Rattle.std.proofs.lemmas.List.{append-nil}
use Rattle.ingress.specs.declared.outcome.Outcome.{Outcome}
use Rattle.media_front.specs.Fronts.{Arrival}
use Rattle.event_loop.specs.Moments.{AreUpTo, latest, RiseFrom}
use Rattle.event_loop.specs.Turns.{Turn, History, Does, HaveDone, owed, passed, took, lost, looked, gave_ticks}
use Rattle.event_loop.specs.Turns.{let_wait, let_some_wait, entered_desk, saw_desk, wanted_picture, chose_sources}
use Rattle.event_loop.specs.Turns.{asked_picture, made_report, judged_wake, signalled}
use Rattle.event_loop.specs.Totals.{taken_in}
use Rattle.event_loop.specs.Tries.{moments_in}
use Rattle.event_loop.proofs.TurnLemmas.{told_by_one, told_by_all}

-- ---- the latest moment

first_of : (a b n : ℕ) → max a b ≤ n → a ≤ n
first_of a b n low = grind (arith, nat_tests)

second_of : (a b n : ℕ) → max a b ≤ n → b ≤ n
second_of a b n low = grind (arith, nat_tests)

up_to : (n : ℕ) (xs : List ℕ) → latest xs ≤ n → AreUpTo n xs
up_to n [] low = tt
up_to n (x ∷ xs) low = (first_of x (latest xs) n low, up_to n xs (second_of x (latest xs) n low))

at_least : (a b n : ℕ) → n ≡ max a b → a ≤ n
at_least a b n is = grind (arith, nat_tests)

-- what is no earlier than the latest moment is no earlier than any
pub up_to_latest : (last moment now : ℕ) (xs : List ℕ) → last ≡ latest xs → now ≡ max last moment → AreUpTo now xs
up_to_latest last moment now xs same is =
    up_to now xs (subst (λ (n : ℕ). n ≤ now) same (at_least last moment now is))

max_zero : (a : ℕ) → max a 0 ≡ max 0 a
max_zero a = grind (arith, nat_tests)

max_assoc : (a b c : ℕ) → max a (max b c) ≡ max (max a b) c
max_assoc a b c = grind (arith, nat_tests)

latest_more : (xs : List ℕ) (y : ℕ) → latest (xs ++ y ∷ []) ≡ max (latest xs) y
latest_more [] y = max_zero y
latest_more (x ∷ xs) y = ap (λ (n : ℕ). max x n) (latest_more xs y) ∙ max_assoc x (latest xs) y

max_again : (a b n : ℕ) → n ≡ max a b → n ≡ max a n
max_again a b n is = grind (arith, nat_tests)

-- what is told then is the latest moment
pub latest_told : (last moment now : ℕ) (xs : List ℕ) → last ≡ latest xs → now ≡ max last moment
    → now ≡ latest (xs ++ now ∷ [])
latest_told last moment now xs same is =
    max_again last moment now is
    ∙ (ap (λ (n : ℕ). max n now) same
    ∙ sym (latest_more xs now))

-- ---- moments that rise

behind_all : (n : ℕ) (xs ys : List ℕ) → AreUpTo n (xs ++ ys) → AreUpTo n ys
behind_all n [] ys all = all
behind_all n (x ∷ xs) ys all = behind_all n xs ys all.1

rise_more : (m : ℕ) (xs : List ℕ) (y : ℕ) → RiseFrom m xs → m ≤ y → AreUpTo y xs → RiseFrom m (xs ++ y ∷ [])
rise_more m [] y rise low all = (low, tt)
rise_more m (x ∷ xs) y rise low all = (rise.0, rise_more x xs y rise.1 all.0 all.1)

none_more : (xs : List ℕ) → RiseFrom 0 xs → RiseFrom 0 (xs ++ [])
none_more xs rise = subst (λ (l : List ℕ). RiseFrom 0 l) (sym (append-nil xs)) rise

-- the moments behind some that the watch told, and one more
one_more : (told before xs : List ℕ) (y : ℕ) → AreUpTo y told → told ≡ before ++ xs → RiseFrom 0 xs
    → RiseFrom 0 (xs ++ y ∷ [])
one_more told before xs y all is rise =
    rise_more 0 xs y rise (omega (arith))
    (behind_all y before xs (subst (λ (l : List ℕ). AreUpTo y l) is all))

rise_by_one : {P S : Type 0} (t : Turn) (before xs : List ℕ) (old new : History P S) → Does old t new
    → old.told ≡ before ++ xs → RiseFrom 0 xs → RiseFrom 0 (xs ++ moments_in t)
rise_by_one (owed notice) before xs old new d is rise = none_more xs rise
rise_by_one (passed came) before xs old new d is rise = none_more xs rise
rise_by_one (took late arrival outcome ended) before xs old new d is rise =
    one_more old.told before xs arrival.moment d.read.rising is rise
rise_by_one (lost late arrival) before xs old new d is rise =
    one_more old.told before xs arrival.moment d.read.rising is rise
rise_by_one (looked moment) before xs old new d is rise = one_more old.told before xs moment d.rising is rise
rise_by_one (gave_ticks due moment) before xs old new d is rise = none_more xs rise
rise_by_one (let_wait desk moment) before xs old new d is rise = none_more xs rise
rise_by_one (let_some_wait desk moment) before xs old new d is rise = none_more xs rise
rise_by_one (entered_desk desk) before xs old new d is rise = none_more xs rise
rise_by_one (saw_desk later version desk moment) before xs old new d is rise = none_more xs rise
rise_by_one (wanted_picture source moment) before xs old new d is rise = none_more xs rise
rise_by_one (chose_sources moment sources) before xs old new d is rise = none_more xs rise
rise_by_one (asked_picture o moment sent) before xs old new d is rise = none_more xs rise
rise_by_one (made_report due desk moment) before xs old new d is rise = none_more xs rise
rise_by_one (judged_wake moment raised) before xs old new d is rise = none_more xs rise
rise_by_one signalled before xs old new d is rise = none_more xs rise

-- if these rise behind what was told before, they rise with those of the turns
rise_by_all : {P S : Type 0} (turns : List Turn) (before xs : List ℕ) (old new : History P S)
    → HaveDone turns old new
    → old.told ≡ before ++ xs → RiseFrom 0 xs → RiseFrom 0 (xs ++ flat_map moments_in turns)
rise_by_all [] before xs old new g is rise = none_more xs rise
rise_by_all (t ∷ ts) before xs old new g is rise =
    let more = xs ++ moments_in t in
    subst (λ (l : List ℕ). RiseFrom 0 l) (append_assoc xs (moments_in t) (flat_map moments_in ts))
    (rise_by_all ts before more g.0 new g.2
    (told_by_one t old g.0 g.1
    ∙ (ap (λ (l : List ℕ). l ++ moments_in t) is ∙ append_assoc before xs (moments_in t)))
    (rise_by_one t before xs old g.0 g.1 is rise))

pub turns_rise : {P S : Type 0} (turns : List Turn) (old new : History P S) → HaveDone turns old new
    → RiseFrom 0 (flat_map moments_in turns)
turns_rise turns old new done = rise_by_all turns old.told [] old new done (sym (append-nil old.told)) tt

-- the moments at which these datagrams were taken in
abbrev pub taken_at : List Turn → List ℕ
taken_at turns = map (λ (t : Arrival × Outcome). (t.0).moment) (flat_map taken_in turns)

between : (a b c : ℕ) → a ≤ b → b ≤ c → a ≤ c
between a b c low high = omega (arith, low, high)

taken_rise : (turns : List Turn) (m n : ℕ) → m ≤ n → RiseFrom n (flat_map moments_in turns)
    → RiseFrom m (taken_at turns)
taken_rise [] m n low rise = tt
taken_rise (took late arrival outcome ended ∷ ts) m n low rise =
    (between m n arrival.moment low rise.0, taken_rise ts arrival.moment arrival.moment (omega (arith)) rise.1)
taken_rise (lost late arrival ∷ ts) m n low rise =
    taken_rise ts m arrival.moment (between m n arrival.moment low rise.0) rise.1
taken_rise (looked moment ∷ ts) m n low rise = taken_rise ts m moment (between m n moment low rise.0) rise.1
taken_rise (owed notice ∷ ts) m n low rise = taken_rise ts m n low rise
taken_rise (passed came ∷ ts) m n low rise = taken_rise ts m n low rise
taken_rise (gave_ticks due moment ∷ ts) m n low rise = taken_rise ts m n low rise
taken_rise (let_wait desk moment ∷ ts) m n low rise = taken_rise ts m n low rise
taken_rise (let_some_wait desk moment ∷ ts) m n low rise = taken_rise ts m n low rise
taken_rise (entered_desk desk ∷ ts) m n low rise = taken_rise ts m n low rise
taken_rise (saw_desk later version desk moment ∷ ts) m n low rise = taken_rise ts m n low rise
taken_rise (wanted_picture source moment ∷ ts) m n low rise = taken_rise ts m n low rise
taken_rise (chose_sources moment sources ∷ ts) m n low rise = taken_rise ts m n low rise
taken_rise (asked_picture o moment sent ∷ ts) m n low rise = taken_rise ts m n low rise
taken_rise (made_report due desk moment ∷ ts) m n low rise = taken_rise ts m n low rise
taken_rise (judged_wake moment raised ∷ ts) m n low rise = taken_rise ts m n low rise
taken_rise (signalled ∷ ts) m n low rise = taken_rise ts m n low rise

pub arrivals_rise : {P S : Type 0} (turns : List Turn) (old new : History P S) → HaveDone turns old new
    → RiseFrom 0 (taken_at turns)
arrivals_rise turns old new done = taken_rise turns 0 0 (omega (arith)) (turns_rise turns old new done)

pub told_rise : {P S : Type 0} (turns : List Turn) (old new : History P S) → HaveDone turns old new
    → RiseFrom 0 old.told → RiseFrom 0 new.told
told_rise turns old new done rise =
    subst (λ (l : List ℕ). RiseFrom 0 l) (sym (told_by_all turns old new done))
    (rise_by_all turns [] old.told old new done refl rise)
