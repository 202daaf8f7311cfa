-- The timestamps of frames by maximal runs are those that are given one by one.
use Rattle.std.proofs.Common.{◌≡◌, ℕ, ◌+◌, ◌%◌, ◌^◌, true, false, cond, List, [], ◌∷◌, ◌++◌, map, None, refl, sym, ap}
use Rattle.std.proofs.Common.{◌∙◌}
use Rattle.forward_rewrite.specs.Sending.{Sending}
use Rattle.forward_rewrite.specs.Timestamps.{Run, Stamped, same_run, runs_with, runs_of, stamp_in_run, pause}
use Rattle.forward_rewrite.specs.Timestamps.{stamped_runs, stamped, last_or, last_of}

-- a run with its first frame and the last frame so far
pub record InRun : Type 0 where
  pub start : ℕ
  pub first : Sending
  pub before : Stamped

abbrev pub begun : ℕ → Sending → InRun
begun start f = record { start = start; first = f; before = stamp_in_run start f f }

abbrev pub next : InRun → Sending → InRun
next r g =
    cond (same_run r.before.sending.frame g.frame)
    (record { start = r.start; first = r.first; before = stamp_in_run r.start r.first g })
    (begun ((r.before.ts + pause r.before.sending.frame.moment g.frame.moment) % 2 ^ 32) g)

abbrev pub walk : InRun → List Sending → List Stamped
walk r [] = []
walk r (g ∷ gs) = (next r g).before ∷ walk (next r g) gs

abbrev pub end : InRun → List Sending → InRun
end r [] = r
end r (g ∷ gs) = end (next r g) gs

pub record Cut (f : Sending) (frames : List Sending) : Type 0 where
  pub others : List Sending
  pub runs : List Run
  pub is : runs_of (f ∷ frames) ≡ record { first = f; others = others } ∷ runs

cut_with : (f : Sending) (runs : List Run)
    → (others : List Sending) × (rest : List Run) × (runs_with f runs ≡ record { first = f; others = others } ∷ rest)
cut_with f [] = ([], [], refl)
cut_with f (run ∷ runs) =
    elim (same_run f.frame run.first.frame) as (λ b.
    (others : List Sending) × (rest : List Run)
    × (cond b (record { first = f; others = run.first ∷ run.others } ∷ runs)
    (record { first = f; others = [] } ∷ run ∷ runs)
    ≡ record { first = f; others = others } ∷ rest))
    [ true ↦ (run.first ∷ run.others, runs, refl) | false ↦ ([], run ∷ runs, refl) ]

pub cut : (f : Sending) (frames : List Sending) → Cut f frames
cut f frames = let c = cut_with f (runs_of frames) in record { others = c.0; runs = c.1; is = c.2 }

-- runs whose first goes on from this start
abbrev pub stamped_from : ℕ → ℕ → Sending → List Run → List Stamped
stamped_from first_ts start first [] = []
stamped_from first_ts start first (run ∷ runs) =
    let stamped = map (stamp_in_run start first) (run.first ∷ run.others) in
    stamped ++ stamped_runs first_ts (last_of stamped) runs

pub walked : (first_ts start : ℕ) (first f : Sending) (frames : List Sending)
    → stamped_from first_ts start first (runs_of (f ∷ frames))
    ≡ stamp_in_run start first f
    ∷ walk (record { start = start; first = first; before = stamp_in_run start first f }) frames
walked first_ts start first f [] = refl
walked first_ts start first f (g ∷ gs) =
    let c = cut g gs in
    let run : Run = record { first = g; others = c.others } in
    let s : Stamped = stamp_in_run start first f in
    let inside : stamped_from first_ts start first (run ∷ c.runs)
    ≡ stamp_in_run start first g
    ∷ walk (record { start = start; first = first; before = stamp_in_run start first g }) gs =
    ap (stamped_from first_ts start first) (sym c.is) ∙ walked first_ts start first g gs in
    let t = (s.ts + pause f.frame.moment g.frame.moment) % 2 ^ 32 in
    let outside : stamped_from first_ts t g (run ∷ c.runs) ≡ stamp_in_run t g g ∷ walk (begun t g) gs =
    ap (stamped_from first_ts t g) (sym c.is) ∙ walked first_ts t g g gs in
    ap (λ rs. stamped_from first_ts start first (runs_with f rs)) c.is
    ∙ (elim (same_run f.frame g.frame) as (λ b.
    stamped_from first_ts start first
    (cond b (record { first = f; others = g ∷ c.others } ∷ c.runs) (record { first = f; others = [] } ∷ run ∷ c.runs))
    ≡ s
    ∷ (let r = cond b (record { start = start; first = first; before = stamp_in_run start first g }) (begun t g) in
    r.before ∷ walk r gs))
    [ true ↦ ap (λ xs. s ∷ xs) inside | false ↦ ap (λ xs. s ∷ xs) outside ])

-- the frames one by one
pub stamped-cons : (first_ts : ℕ) (f : Sending) (frames : List Sending)
    → stamped first_ts (f ∷ frames) ≡ (begun (first_ts % 2 ^ 32) f).before ∷ walk (begun (first_ts % 2 ^ 32) f) frames
stamped-cons first_ts f frames =
    let c = cut f frames in
    let start = first_ts % 2 ^ 32 in
    ap (stamped_runs first_ts None) c.is
    ∙ (ap (stamped_from first_ts start f) (sym c.is) ∙ walked first_ts start f f frames)

pub walk-append : (r : InRun) (gs : List Sending) (g : Sending)
    → walk r (gs ++ g ∷ []) ≡ walk r gs ++ (next (end r gs) g).before ∷ []
walk-append r [] g = refl
walk-append r (x ∷ gs) g = ap (λ xs. (next r x).before ∷ xs) (walk-append (next r x) gs g)

pub end-before : (r : InRun) (gs : List Sending) → (end r gs).before ≡ last_or r.before (walk r gs)
end-before r [] = refl
end-before r (x ∷ gs) = end-before (next r x) gs

-- the last frame is of its run
abbrev pub Within : InRun → Type 0
Within r = r.before ≡ stamp_in_run r.start r.first r.before.sending

pub next_within : (r : InRun) (g : Sending) → Within (next r g)
next_within r g =
    elim (same_run r.before.sending.frame g.frame) as (λ b.
    Within (cond b (record { start = r.start; first = r.first; before = stamp_in_run r.start r.first g })
    (begun ((r.before.ts + pause r.before.sending.frame.moment g.frame.moment) % 2 ^ 32) g)))
    [ true ↦ refl | false ↦ refl ]

pub end_within : (r : InRun) (gs : List Sending) → Within r → Within (end r gs)
end_within r [] h = h
end_within r (x ∷ gs) h = end_within (next r x) gs (next_within r x)
