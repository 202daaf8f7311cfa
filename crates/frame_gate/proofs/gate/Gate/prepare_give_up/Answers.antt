use Rattle.std.proofs.Common.{◌≡◌, ℕ, ap, ◌∙◌, subst, arith, to_z, of_z, w64}
use Rattle.std.specs.Prelude.{IfOk}
use Rattle.std.proofs.lemmas.Int.{to_z-of_z}
use Rattle.frame_gate.specs.Packets.{number_of}
use Rattle.frame_gate.specs.Admits.{PreparesCuts}
use Rattle.frame_gate.proofs.gate.Gate.prepare_give_up.Goals as goal

pub returns : goal.returns
returns g c =
    let same : to_z w64 (of_z w64 c.args.ext) ≡ c.args.ext = grind (arith, to_z-of_z) in
    let num : c.number_of.result ≡ number_of c.args.ext = c.number_of.ensures.number ∙ ap number_of same in
    subst (λ (n : ℕ). IfOk c.cuts_at.result (λ r. PreparesCuts c.args.self.now n r)) num c.cuts_at.ensures
