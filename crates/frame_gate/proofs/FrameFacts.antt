-- What packets without a fault are.
use Rattle.std.proofs.Common.{◌≡◌, ◌≤◌, Bool, true, false, cond, not, ◌||◌, zero, suc, nat_eq, nat_lt, List, [], ◌∷◌}
use Rattle.std.proofs.Common.{length, Option, None, Some, refl, arith}
use Rattle.std.specs.List.{All}
use Rattle.std.proofs.lemmas.Bool.Decides.{nat_tests}
use Rattle.frame_gate.specs.Frame.{most_packets, highest_pt, SourcePacket, fault_of, numbers_rise, lacks_payload}
use Rattle.frame_gate.specs.Frame.{has_bad_kind, marker_is_early}
use Rattle.frame_gate.specs.declared.frame.FrameFault.{FrameFault}
use Rattle.frame_gate.specs.declared.frame.FrameFault.TheVariants.{Empty, Order, TooMany, NoPayload, BadKind, Marker}

-- a test that didn't hold, and those behind it
past : (b : Bool) (fault : FrameFault) (later : Option FrameFault) → cond b (Some fault) later ≡ None
    → (b ≡ false) × (later ≡ None)
past true fault later e = absurd (cc)
past false fault later e = (refl, e)

no_other : (b c : Bool) → b || c ≡ false → (b ≡ false) × (c ≡ false)
no_other true c e = absurd (cc)
no_other false c e = (refl, e)

pub record Faultless (ps : List SourcePacket) : Type 0 where
  pub few : nat_lt most_packets (length ps) ≡ false
  pub kinds : has_bad_kind ps ≡ false

pub faultless : (ps : List SourcePacket) → fault_of ps ≡ None → Faultless ps
unfolding fault_of
faultless ps none =
    let marker = cond (marker_is_early ps) (Some Marker) None in
    let kind = cond (has_bad_kind ps) (Some BadKind) marker in
    let payload = cond (lacks_payload ps) (Some NoPayload) kind in
    let many = cond (nat_lt most_packets (length ps)) (Some TooMany) payload in
    let order = cond (not (numbers_rise ps)) (Some Order) many in
    let a = past (nat_eq (length ps) 0) Empty order none in
    let b = past (not (numbers_rise ps)) Order many a.1 in
    let c = past (nat_lt most_packets (length ps)) TooMany payload b.1 in
    let d = past (lacks_payload ps) NoPayload kind c.1 in
    let e = past (has_bad_kind ps) BadKind marker d.1 in
    record { few = c.0; kinds = e.0 }

pub few_packets : (ps : List SourcePacket) → fault_of ps ≡ None → length ps ≤ most_packets
few_packets ps none = let few = (faultless ps none).few in grind (arith, nat_tests)

good_kinds : (ps : List SourcePacket) → has_bad_kind ps ≡ false → All (λ p. p.pt ≤ highest_pt) ps
good_kinds [] e k d lt = absurd (omega arith)
good_kinds (p ∷ ps) e zero d lt =
    let first = (no_other (nat_lt highest_pt p.pt) (has_bad_kind ps) e).0 in grind (arith, nat_tests)
good_kinds (p ∷ ps) e (suc k) d lt =
    good_kinds ps (no_other (nat_lt highest_pt p.pt) (has_bad_kind ps) e).1 k d (omega arith)

pub kinds_fit : (ps : List SourcePacket) → fault_of ps ≡ None → All (λ p. p.pt ≤ highest_pt) ps
kinds_fit ps none = good_kinds ps (faultless ps none).kinds
