-- Lanes whose sinks were told what they handled.
use Rattle.std.proofs.Common.{Bool, ◌≡◌, ℕ, zero, suc, List, [], ◌∷◌, map, slice_get, Some, refl, subst}
use Rattle.desk_rows.specs.Edit.{EditOf}
use Rattle.media_workers.specs.declared.lane_end.LaneEnd.{LaneEnd}
use Rattle.media_workers.specs.LaneRuns.{Versioned, versioned}
use Rattle.media_workers.specs.Ports.{PortOf}
use Rattle.media_workers.specs.Bridges.{Taking, Hearing, EndsTold, AllTold}
use Rattle.lane_laws.specs.Learnt.{HasSeen, AllSeen, lanes_of, handled}
use Rattle.lane_laws.specs.Replays.{all_ended}

-- the lane of this place, how it ended, and what its sink was told
pub record ToldAt {N P S : Type 0} (lists : List (List EditOf)) (answers : P → ℕ → Bool → Type 0) (taken : Taking S)
    (hearing : Hearing S) (ports : List (PortOf P S)) (lanes : List (List Versioned)) (lane : ℕ) (port : PortOf P S)
    (end : LaneEnd N S) : Type 0 where
  pub its_lane : slice_get (lanes_of ports) lane ≡ Some port.lane
  pub told : EndsTold answers taken hearing port end
  pub seen : HasSeen lists answers taken port end told.ended
  pub items : slice_get lanes lane ≡ Some (map versioned told.ended.ran.served)

pub told_at : {N P S : Type 0} (lists : List (List EditOf)) (answers : P → ℕ → Bool → Type 0) (taken : Taking S)
    (hearing : Hearing S) (ports : List (PortOf P S)) (ends : List (LaneEnd N S))
    (told : AllTold answers taken hearing ports ends) (lane : ℕ) (port : PortOf P S) (end : LaneEnd N S)
    → AllSeen lists answers taken ports ends (all_ended answers taken hearing ports ends told)
    → slice_get ports lane ≡ Some port → slice_get ends lane ≡ Some end
    → ToldAt lists answers taken hearing ports
    (handled answers taken ports ends (all_ended answers taken hearing ports ends told)) lane port end
told_at lists answers taken hearing [] ends told lane port end seen at ends_at = absurd (cc (at))
told_at lists answers taken hearing (p ∷ ps) [] told lane port end seen at ends_at = absurd (cc (ends_at))
told_at {N} {P} {S} lists answers taken hearing (p ∷ ps) (e ∷ es) told zero port end seen at ends_at =
    let its : p ≡ port = cc (at) in
    let ending : e ≡ end = cc (ends_at) in
    let lanes = handled answers taken (p ∷ ps) (e ∷ es) (all_ended answers taken hearing (p ∷ ps) (e ∷ es) told) in
    let first : ToldAt lists answers taken hearing (p ∷ ps) lanes zero p e =
    record { its_lane = refl; told = told.0; seen = seen.0; items = refl } in
    subst (λ (x : PortOf P S). ToldAt lists answers taken hearing (p ∷ ps) lanes zero x end) its
    (subst (λ (x : LaneEnd N S). ToldAt lists answers taken hearing (p ∷ ps) lanes zero p x) ending first)
told_at lists answers taken hearing (p ∷ ps) (e ∷ es) told (suc lane) port end seen at ends_at =
    let rest = told_at lists answers taken hearing ps es told.1 lane port end seen.1 at ends_at in
    record { its_lane = rest.its_lane; told = rest.told; seen = rest.seen; items = rest.items }
