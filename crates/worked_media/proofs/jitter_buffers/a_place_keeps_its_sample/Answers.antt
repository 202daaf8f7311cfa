use Rattle.std.proofs.Common.{ℕ, pos, [], ◌∷◌, subst, Some, None}
use Rattle.playout.specs.Playout.{begun_by}
use Rattle.playout.specs.inner.Holds.{Holds}
use Rattle.worked_media.proofs.jitter_buffers.a_place_keeps_its_sample.Goals as goal

pub returns : goal.returns
returns c =
    let play = begun_by 50 1000 (pos 5 ∷ pos 6 ∷ []) in
    let step_1 =
    subst (λ (rate : ℕ). Holds c.put.new.self (Some (begun_by rate 1000 (pos 5 ∷ pos 6 ∷ [])))) c.in-Ok.ensures.rate
    (c.put.ensures.puts None c.in-Ok.ensures.blank).1 in
    (c.put-2.ensures.puts (Some play) step_1).0
