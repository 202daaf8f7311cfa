-- What blocks tell.
use Rattle.std.proofs.Common.{◌≡◌, ℕ, ◌+◌, ◌-◌, ◌*◌, ◌/◌, ◌^◌, ◌<◌, ◌≤◌, List, [], ◌∷◌, ◌++◌, Some, refl, sym, ap, ◌∙◌}
use Rattle.std.proofs.Common.{subst, arith, min}
use Rattle.std.specs.Prelude.{fold, map, ℤ, pos, negsuc}
use Rattle.std.proofs.lemmas.List.Sums.{fold-append}
use Rattle.source_valid.specs.declared.timing.Timing.{Timing}
use Rattle.source_valid.specs.Stretches.{further, greatest}
use Rattle.source_valid.specs.Histories.{Arrival, timing_after}
use Rattle.source_valid.specs.Timings.{untimed, transit_of, apart, timed}
use Rattle.source_valid.specs.laws.Intervals.{Intervals}
use Rattle.source_valid.specs.laws.Steady.{Arrived, AreEven, Steady}
use Rattle.source_valid.specs.laws.Delays.{Delays}

further-le : (g : ℕ) (e : ℤ) → g ≤ further g e
further-le g (pos n) = omega arith
further-le g (negsuc n) = omega arith

greatest-le : (base : ℕ) (exts : List ℤ) → base ≤ greatest base exts
greatest-le base [] = omega arith
greatest-le base (e ∷ exts) =
    let a : base ≤ further base e = further-le base e in
    let b : further base e ≤ greatest (further base e) exts = greatest-le (further base e) exts in
    omega (arith, a, b)

pub intervals : Intervals
intervals base [] second = omega arith
intervals base (e ∷ first) second =
    let joined : greatest base ((e ∷ first) ++ second) ≡ greatest (greatest base (e ∷ first)) second =
    fold-append further base (e ∷ first) second in
    let more : greatest base (e ∷ first) ≤ greatest (greatest base (e ∷ first)) second =
    greatest-le (greatest base (e ∷ first)) second in
    let some : base ≤ greatest base (e ∷ first) = greatest-le base (e ∷ first) in
    by (greatest base (e ∷ first)) (greatest base ((e ∷ first) ++ second))
    (subst (λ (g : ℕ). greatest base (e ∷ first) ≤ g) (sym joined) more) some
  where
    by : (g h : ℕ) → g ≤ h → base ≤ g → (g + 1 - base) + ((h + 1 - base) - (g + 1 - base)) ≡ h + 1 - base
    by g h more some = omega arith

-- a source with no jitter yet, whose packets so far took this long
abbrev even : ℕ → Timing
even transit = record { transit = Some transit; jitter = 0 }

apart-same : (t : ℕ) → t < 2 ^ 32 → apart t t ≡ 0
apart-same t fits = omega arith

transit-fits : (transit ts units : ℕ) → transit_of ts units ≡ transit → transit < 2 ^ 32
transit-fits transit ts units is = omega arith

timed-even : (transit ts units : ℕ) → transit_of ts units ≡ transit → timed (even transit) ts units ≡ even transit
timed-even transit ts units is =
    ap (λ (t : ℕ). record { transit = Some t; jitter = 0 + apart transit t - (0 + 8) / 16 }) is
    ∙ ap (λ (d : ℕ). record { transit = Some transit; jitter = 0 + d - (0 + 8) / 16 })
    (apart-same transit (transit-fits transit ts units is))

stays_even : (transit : ℕ) (arrived : List Arrived) → AreEven transit arrived
    → fold timing_after (even transit) (map (λ (a : Arrived). Arrival a.ts a.units) arrived) ≡ even transit
stays_even transit [] h = refl
stays_even transit (a ∷ arrived) (is, h) =
    ap (λ (t : Timing). fold timing_after t (map (λ (b : Arrived). Arrival b.ts b.units) arrived))
    (timed-even transit a.ts a.units is)
    ∙ stays_even transit arrived h

pub steady : Steady
steady transit [] h = refl
steady transit (a ∷ arrived) (is, h) =
    let first : timed untimed a.ts a.units ≡ even transit = ap (λ (t : ℕ). even t) is in
    ap (λ (t : Timing). (fold timing_after t (map (λ (b : Arrived). Arrival b.ts b.units) arrived)).jitter) first
    ∙ ap (λ (t : Timing). t.jitter) (stays_even transit arrived h)

pub delays : Delays
delays h seconds less =
    let elapsed : h.moment + seconds * 10 ^ 9 - h.moment ≡ seconds * 10 ^ 9 = omega arith in
    by seconds (h.moment + seconds * 10 ^ 9 - h.moment) elapsed less
  where
    by : (s e : ℕ) → e ≡ s * 10 ^ 9 → s < 2 ^ 16 → min (e * 2 ^ 16 / 10 ^ 9) (2 ^ 32 - 1) ≡ s * 2 ^ 16
    by s e is less = omega arith
