-- A source whose packets all take the same time has no jitter (RFC 3550 A.8).
use Rattle.std.specs.Prelude.{◌≡◌, ℕ, List, [], ◌∷◌, map, fold}
use Rattle.source_valid.specs.Histories.{Arrival, timing_after}
use Rattle.source_valid.specs.Timings.{untimed, transit_of}

-- a packet's timestamp, and its arrival in the same units
pub record Arrived : Type 0 where
  pub ts : ℕ
  pub units : ℕ

-- All packets were as long on their way.
abbrev pub AreEven : ℕ → List Arrived → Type 0
AreEven transit [] = Unit {0}
AreEven transit (a ∷ arrived) = (transit_of a.ts a.units ≡ transit) × AreEven transit arrived

abbrev pub Steady : Type 0
Steady =
    (transit : ℕ) (arrived : List Arrived) → AreEven transit arrived
    → (fold timing_after untimed (map (λ (a : Arrived). Arrival a.ts a.units) arrived)).jitter ≡ 0
