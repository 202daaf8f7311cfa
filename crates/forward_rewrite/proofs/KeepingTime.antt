-- The time of a stream goes on from frame to frame.
use Rattle.std.proofs.Common.{◌≡◌, ℕ, ◌+◌, ◌%◌, ◌^◌, true, false, cond, List, [], ◌∷◌, map, refl, sym, ap, ◌∙◌, arith}
use Rattle.std.proofs.Common.{subst}
use Rattle.std.specs.Prelude.{IfSome}
use Rattle.std.specs.List.{slice_get}
use Rattle.forward_rewrite.specs.Sending.{Sending}
use Rattle.forward_rewrite.specs.Timestamps.{Stamped, same_run, stamp_in_run, pause, difference, stamped}
use Rattle.forward_rewrite.specs.laws.Laws.{ts_behind, GoOn, KeepsTime}
use Rattle.forward_rewrite.proofs.Stamps.{InRun, begun, next, walk, stamped-cons, Within, next_within}
use Rattle.forward_rewrite.proofs.Next.{no_distance}

-- a distance after another
in_parts : (start a b c : ℕ)
    → (start + difference a c) % 2 ^ 32 ≡ ((start + difference a b) % 2 ^ 32 + difference b c) % 2 ^ 32
in_parts start a b c = omega arith

next-sending : (r : InRun) (s : Sending) → (next r s).before.sending ≡ s
next-sending r s =
    elim (same_run r.before.sending.frame s.frame) as (λ b.
    (cond b (let n : InRun = record { start = r.start; first = r.first; before = stamp_in_run r.start r.first s } in n)
    (begun ((r.before.ts + pause r.before.sending.frame.moment s.frame.moment) % 2 ^ 32) s)).before.sending
    ≡ s)
    [ true ↦ refl | false ↦ refl ]

next-ts : (r : InRun) (s : Sending) → Within r → (next r s).before.ts ≡ ts_behind r.before s
next-ts r s h =
    let t = (r.before.ts + pause r.before.sending.frame.moment s.frame.moment) % 2 ^ 32 in
    let last = r.before.sending.frame.frame.ts in
    let new = s.frame.frame.ts in
    elim (same_run r.before.sending.frame s.frame) as (λ b.
    (cond b (let n : InRun = record { start = r.start; first = r.first; before = stamp_in_run r.start r.first s } in n)
    (begun t s)).before.ts
    ≡ cond b ((r.before.ts + difference last new) % 2 ^ 32) t) [
      | true ↦
          in_parts r.start r.first.frame.frame.ts last new
          ∙ ap (λ n. (n + difference last new) % 2 ^ 32) (sym (ap (λ (x : Stamped). x.ts) h))
      | false ↦ no_distance t new ∙ (omega arith)
    ]

walk-goes_on : (r : InRun) (gs : List Sending) → Within r → GoOn r.before (walk r gs)
walk-goes_on r [] h = tt
walk-goes_on r (g ∷ gs) h = (
  next-ts r g h ∙ ap (ts_behind r.before) (sym (next-sending r g)),
  walk-goes_on (next r g) gs (next_within r g),
)

pub keeps_time : (first_ts : ℕ) (sendings : List Sending) → KeepsTime (stamped first_ts sendings)
keeps_time first_ts [] = tt
keeps_time first_ts (s ∷ rest) =
    let r = begun (first_ts % 2 ^ 32) s in
    subst KeepsTime (sym (stamped-cons first_ts s rest)) (walk-goes_on r rest refl)

walk-sendings : (r : InRun) (gs : List Sending) → map (λ (s : Stamped). s.sending) (walk r gs) ≡ gs
walk-sendings r [] = refl
walk-sendings r (g ∷ gs) =
    ap (λ s. s ∷ map (λ (s : Stamped). s.sending) (walk (next r g) gs)) (next-sending r g)
    ∙ ap (λ rest. g ∷ rest) (walk-sendings (next r g) gs)

pub all_stamped : (first_ts : ℕ) (sendings : List Sending)
    → map (λ (s : Stamped). s.sending) (stamped first_ts sendings) ≡ sendings
all_stamped first_ts [] = refl
all_stamped first_ts (s ∷ rest) =
    ap (map (λ (s : Stamped). s.sending)) (stamped-cons first_ts s rest)
    ∙ ap (λ others. s ∷ others) (walk-sendings (begun (first_ts % 2 ^ 32) s) rest)

pub first_stamp : (first_ts : ℕ) (sendings : List Sending)
    → IfSome (slice_get (stamped first_ts sendings) 0) (λ s. s.ts ≡ first_ts % 2 ^ 32)
first_stamp first_ts [] = tt
first_stamp first_ts (s ∷ rest) =
    subst (λ (xs : List Stamped). IfSome (slice_get xs 0) (λ s. s.ts ≡ first_ts % 2 ^ 32))
    (sym (stamped-cons first_ts s rest))
    (no_distance (first_ts % 2 ^ 32) s.frame.frame.ts ∙ (omega arith))
