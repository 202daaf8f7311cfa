use Rattle.std.proofs.Common.{◌≡◌, ◌||◌, ◌&&◌, ℤ, not, nat_le, ap, ◌∙◌, subst, arith, to_z, of_z, w64}
use Rattle.std.proofs.lemmas.Int.{to_z-of_z}
use Rattle.frame_gate.specs.Packets.{numbered, number_of}
use Rattle.frame_gate.specs.inner.Kept.{Kept}
use Rattle.frame_gate.specs.Admits.{Prepares}
use Rattle.frame_gate.specs.Watched.{age}
use Rattle.frame_gate.specs.Waits.{WatchedOf}
use Rattle.frame_gate.proofs.CountLemmas.{frames_more, gaps_more}
use Rattle.frame_gate.proofs.watched.WatchedGate.prepare.Goals as goal

pub returns-clause-ok : goal.returns-clause-ok
returns-clause-ok g c =
    let k = c.args.self.now in
    let p = numbered c.args.ext c.args.packet in
    let prepared = c.in_ok-prepared.prepared in
    let same : to_z w64 (of_z w64 c.args.ext) ≡ c.args.ext = grind (arith, to_z-of_z) in
    let num : c.number_of-number.result ≡ number_of c.args.ext =
    c.number_of-number.ensures.number ∙ ap number_of same in
    let seen : c.self.inside.gate ≡ k.gate = ap (λ (x : WatchedOf). x.gate) c.self.view_is in
    let ok : Prepares k.gate p prepared =
    subst (λ (x : Kept). Prepares x p prepared) seen
    (subst (λ (ext : ℤ). Prepares c.self.inside.gate (numbered ext c.args.packet) prepared) same
    c.in_ok-prepared.ensures.ok) in
    λ new commits w h.
    let x = ok new.gate commits.gate w.epoch h.gate in (
      x.0,
      record {
        gate = x.1;
        marks = commits.marks ∙ h.marks;
        answers = commits.answers ∙ c.answers_with-answers.ensures
            ∙ (λ i. (h.answers i || nat_le 1 (age (h.marks i) (num i))) && not ((c.gives_up-pli.ensures ∙ x.0.pli) i));
        frames = frames_more _ _ _ _ _ h.frames commits.frames x.0.frames;
        gaps = gaps_more _ _ _ _ _ h.gaps commits.gaps x.0.pli;
      },
    )
