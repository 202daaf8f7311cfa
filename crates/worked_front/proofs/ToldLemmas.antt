-- Lanes that are given ticks.
use Rattle.std.proofs.Common.{Bool, false, ◌≡◌, ◌<◌, ◌+◌, ℕ, zero, suc, List, [], ◌∷◌, length, Some, Result, Ok, Err}
use Rattle.std.proofs.Common.{OnOk, IfErr, refl, ap, sym, ◌∙◌, arith}
use Rattle.std.proofs.lemmas.List.{length-map}
use Rattle.std.specs.Prelude.{slice_get, slice_set}
use Rattle.published_desk.specs.Published.{NoticeOf}
use Rattle.media_items.specs.declared.item.Item.TheVariants.{Tick}
use Rattle.media_workers.specs.declared.lane_item.LaneItem.TheVariants.{Own}
use Rattle.media_workers.specs.declared.parcel.Parcel.{Parcel}
use Rattle.media_workers.specs.declared.parcel.Parcel.TheVariants.{Work}
use Rattle.media_workers.specs.LaneRuns.{LaneNow}
use Rattle.media_workers.specs.Ports.{PortOf, accept}
use Rattle.lane_laws.specs.Learnt.{lanes_of}

-- the lane is given a tick with this notice
abbrev pub given : {P S : Type 0} → NoticeOf → ℕ → PortOf P S → PortOf P S
given notice moment port = accept (Work (Own (Tick moment)) (Some notice)) port

-- a lane that is given a tick stays the same lane
pub lanes_kept : {P S : Type 0} (ports : List (PortOf P S)) (lane : ℕ) (port : PortOf P S) (notice : NoticeOf)
    (moment : ℕ)
    → slice_get ports lane ≡ Some port
    → lanes_of (slice_set ports lane (given notice moment port)) ≡ lanes_of ports
lanes_kept [] lane port notice moment at = refl
lanes_kept {P} {S} (p ∷ ps) zero port notice moment at =
    let same : p ≡ port = cc (at) in
    ap (λ (x : PortOf P S). x.lane ∷ lanes_of ps) (sym same)
lanes_kept (p ∷ ps) (suc lane) port notice moment at =
    ap (λ (ls : List LaneNow). p.lane ∷ ls) (lanes_kept ps lane port notice moment at)

-- there is a lane at each place
found : {X : Type 0} (xs : List X) (k : ℕ) → k < length xs → (x : X) × (slice_get xs k ≡ Some x)
found [] k low = absurd (omega (arith, low))
found (x ∷ xs) zero low = (x, refl)
found (x ∷ xs) (suc k) low = found xs k (omega (arith, low))

-- whether the tick is accepted or not
pub lanes_still : {P S A : Type 0} (result : Result A Parcel) (old new : List (PortOf P S)) (lane : ℕ)
    (notice : NoticeOf) (moment : ℕ)
    → lane < length old
    → OnOk result ((port : PortOf P S) → slice_get old lane ≡ Some port
    → (port.closed ≡ false) × (new ≡ slice_set old lane (given notice moment port)))
    → IfErr result (λ (back : Parcel). (back ≡ Work (Own (Tick moment)) (Some notice)) × (new ≡ old))
    → lanes_of new ≡ lanes_of old
lanes_still (Ok x) old new lane notice moment low ok err =
    let here = found old lane low in
    ap lanes_of (ok here.0 here.1).1 ∙ lanes_kept old lane here.0 notice moment here.1
lanes_still (Err e) old new lane notice moment low ok err = ap lanes_of err.1

-- as many lanes as before
pub as_many : {P S : Type 0} (old new : List (PortOf P S)) → lanes_of new ≡ lanes_of old → length new ≡ length old
as_many old new same = sym (length-map new (λ p. p.lane)) ∙ (ap length same ∙ length-map old (λ p. p.lane))
