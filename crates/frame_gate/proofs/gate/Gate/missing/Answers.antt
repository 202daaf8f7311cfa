use Rattle.std.proofs.Common.{◌≡◌, ◌∙◌, ℕ, map, List, ap}
use Rattle.std.specs.Prelude.{filter}
use Rattle.std.proofs.lemmas.Result.{IfOk-weaker}
use Rattle.frame_gate.specs.Packets.{ext_of}
use Rattle.frame_gate.specs.inner.Kept.{Kept}
use Rattle.frame_gate.proofs.MissingNumbers.{between}
use Rattle.frame_gate.proofs.Missed.{lacks, misses}
use Rattle.frame_gate.proofs.gate.Gate.missing.Goals as goal

pub returns-clause-missing : goal.returns-clause-missing
returns-clause-missing g c =
    let k = c.args.self.now in
    let cells : c.deref.result.now ≡ k.cells = c.deref.ensures.value ∙ ap (λ (x : Kept). x.cells) c.self.view_is in
    let next : c.self.inside.walk.next ≡ k.walk.next = ap (λ (x : Kept). x.walk.next) c.self.view_is in
    IfOk-weaker c.unheld.result _ _
    (λ v items e h.
    items
    ∙ (λ i. map ext_of (filter (lacks (cells i)) (between (next i) c.missing_end-to.result)))
    ∙ ap (λ (ns : List ℕ). map ext_of ns) (misses k e c.missing_end-to.result h c.missing_end-to.ensures.end))
    c.unheld.ensures.items
