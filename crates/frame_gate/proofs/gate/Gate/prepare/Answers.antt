use Rattle.std.proofs.Common.{◌≡◌, ℤ, arith, ap, ◌∙◌, subst, to_z, of_z, w64}
use Rattle.std.specs.Prelude.{IfOk}
use Rattle.std.proofs.lemmas.Int.{to_z-of_z}
use Rattle.frame_gate.specs.Packets.{NumberedPacket, numbered}
use Rattle.frame_gate.specs.Admits.{Prepares}
use Rattle.frame_gate.proofs.gate.Gate.prepare.Goals as goal

pub returns-clause-ok : goal.returns-clause-ok
returns-clause-ok g c =
    let k = c.args.self.now in
    let same : to_z w64 (of_z w64 c.args.ext) ≡ c.args.ext = grind (arith, to_z-of_z) in
    let is : c.new.result ≡ numbered c.args.ext c.args.packet =
    c.new.ensures ∙ ap (λ (ext : ℤ). numbered ext c.args.packet) same in
    subst (λ (p : NumberedPacket). IfOk c.judge.result (λ r. Prepares k p r)) is c.judge.ensures.ok
