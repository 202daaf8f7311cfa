use Rattle.std.proofs.Common.{◌≡◌, ℤ, arith, sym, subst, to_z, of_z, w64}
use Rattle.std.proofs.lemmas.Int.{to_z-of_z}
use Rattle.frame_gate.specs.Packets.{numbered}
use Rattle.frame_gate.specs.Answer.{Answer}
use Rattle.frame_gate.specs.Admits.{Answers, Prepares}
use Rattle.frame_gate.proofs.gate.Gate.admit.Goals as goal

pub returns-clause-ok : goal.returns-clause-ok
returns-clause-ok g c = λ e h.
    let k = c.args.self.now in
    let p = numbered c.args.ext c.args.packet in
    let prepared = c.in_ok-prepared.prepared in
    let same : to_z w64 (of_z w64 c.args.ext) ≡ c.args.ext = grind (arith, to_z-of_z) in
    let all : Prepares k p prepared =
    subst (λ (ext : ℤ). Prepares k (numbered ext c.args.packet) prepared) same c.in_ok-prepared.ensures.ok in
    let x = all c.commit.new.self c.commit.ensures.gate e h in
    (subst (λ (a : Answer). Answers e p a) (sym c.commit.ensures.answer) x.0, x.1)
