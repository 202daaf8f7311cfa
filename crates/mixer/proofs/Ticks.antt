-- Ticks of turns, and their clock rates.
use Rattle.std.proofs.Common.{◌≡◌, ℕ, List, [], ◌∷◌, ◌++◌, Some, unwrap_or, ap, refl}
use Rattle.std.specs.Option.{option_map}
use Rattle.std.specs.List.{last_or}
use Rattle.forward_rewrite.specs.Mixes.{MixTick, time_of}
use Rattle.mixer.specs.Mixes.{Turn, tick_of, ticks_behind}

-- the clock rate of the last of these ticks
abbrev pub rate_behind : ℕ → List Turn → ℕ
rate_behind before [] = before
rate_behind before (t ∷ ts) = rate_behind (tick_of before t).rate ts

-- one turn more
pub ticks_push : (before : ℕ) (ts : List Turn) (t : Turn)
    → ticks_behind before (ts ++ t ∷ []) ≡ ticks_behind before ts ++ tick_of (rate_behind before ts) t ∷ []
ticks_push before [] t = refl
ticks_push before (x ∷ ts) t = ap (λ xs. tick_of before x ∷ xs) (ticks_push (tick_of before x).rate ts t)

-- the last of them has this rate
pub rate_stands : (x : MixTick) (ts : List Turn)
    → unwrap_or (option_map (λ last. last.rate) (option_map time_of (last_or (Some x) (ticks_behind x.rate ts)))) 0
    ≡ rate_behind x.rate ts
rate_stands x [] = refl
rate_stands x (t ∷ ts) = rate_stands (tick_of x.rate t) ts
