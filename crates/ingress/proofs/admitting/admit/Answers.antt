use Rattle.std.proofs.Common.{◌≡◌, ℤ, arith, subst, to_z, of_z, w64}
use Rattle.std.proofs.lemmas.Int.{to_z-of_z}
use Rattle.frame_gate.specs.Packets.{numbered}
use Rattle.frame_gate.specs.Waits.{PreparesPacket}
use Rattle.ingress.proofs.AtGates.{at_gate, at_new_gate, fresh_gate}
use Rattle.ingress.proofs.admitting.admit.Goals as goal

-- src/admitting.rt:38:1
pub returns-in_ok-prepared-in-Some : goal.returns-in_ok-prepared-in-Some
returns-in_ok-prepared-in-Some g c =
    let same : to_z w64 (of_z w64 c.args.ext) ≡ c.args.ext = grind (arith, to_z-of_z) in
    let ready =
    subst
    (λ (ext : ℤ). PreparesPacket c.in-Some.gate.now (numbered ext c.args.packet) c.in_ok-prepared-in-Some.prepared) same
    c.in_ok-prepared-in-Some.ensures.ok in
    record { few = c.in_ok-prepared-in-Some.ensures.few; admits = rw c.in-Some.is (at_gate _ _ _ ready) }

-- src/admitting.rt:38:1
pub returns-in_ok-prepared-in-None : goal.returns-in_ok-prepared-in-None
returns-in_ok-prepared-in-None g c =
    let same : to_z w64 (of_z w64 c.args.ext) ≡ c.args.ext = grind (arith, to_z-of_z) in
    let ready =
    subst
    (λ (ext : ℤ).
    PreparesPacket c.in_ok-fresh-in-None.fresh (numbered ext c.args.packet) c.in_ok-prepared-in-None.prepared)
    same c.in_ok-prepared-in-None.ensures.ok in
    record {
      few = c.in_ok-prepared-in-None.ensures.few;
      admits =
          rw c.in-None.is (at_new_gate _ _ _
          (fresh_gate _ c.in_ok-fresh-in-None.ensures.gate c.in_ok-fresh-in-None.ensures.marks
          c.in_ok-fresh-in-None.ensures.answers c.in_ok-fresh-in-None.ensures.frames
          c.in_ok-fresh-in-None.ensures.gaps)
          ready);
    }
