use Rattle.std.proofs.Common.{ℕ, ◌+◌, min, Option, Some, option_map, sym, ap, ◌∙◌}
use Rattle.std.specs.Prelude.{unwrap_or}
use Rattle.frame_gate.specs.inner.Kept.{Kept}
use Rattle.frame_gate.specs.Watched.{age}
use Rattle.frame_gate.specs.Waits.{WatchedOf}
use Rattle.frame_gate.proofs.Missed.{first_missing}
use Rattle.frame_gate.proofs.watched.WatchedGate.waits.Goals as goal

pub returns-in-None : goal.returns-in-None
returns-in-None g c = λ w h.
    let seen = ap (λ (x : WatchedOf). x.gate) c.self.view_is in
    let kept = (λ i. (c.self-inside.view_is i).gate) ∙ seen in
    let first =
    first_missing c.args.self.now.gate w.epoch _ _ c.missing_end-to.result h.gate
    (c.deref.ensures.value ∙ ap (λ (x : Kept). x.cells) kept)
    (ap (λ (x : Kept). x.walk.next) kept)
    (c.missing_end-to.ensures.end ∙ ap (λ (x : Kept). min (unwrap_or x.greatest 0) (x.walk.next + 255)) seen) in
    ap (λ (o : Option ℕ). option_map (age w.marks) o) (sym c.in-None.is ∙ c.first_unheld.ensures ∙ first)

pub returns-in-Some : goal.returns-in-Some
returns-in-Some g c = λ w h.
    let seen = ap (λ (x : WatchedOf). x.gate) c.self.view_is in
    let kept = (λ i. (c.self-inside.view_is i).gate) ∙ seen in
    let first =
    first_missing c.args.self.now.gate w.epoch _ _ c.missing_end-to.result h.gate
    (c.deref.ensures.value ∙ ap (λ (x : Kept). x.cells) kept)
    (ap (λ (x : Kept). x.walk.next) kept)
    (c.missing_end-to.ensures.end ∙ ap (λ (x : Kept). min (unwrap_or x.greatest 0) (x.walk.next + 255)) seen) in
    let marks =
    c.deref-in-Some.ensures.value
    ∙ (λ i. (c.self-inside.view_is i).marks.items)
    ∙ ap (λ (x : WatchedOf). x.marks) c.self.view_is
    ∙ h.marks in
    ap (λ (n : ℕ). Some n) (c.age.ensures ∙ (λ i. age (marks i) c.in-Some.number))
    ∙ ap (λ (o : Option ℕ). option_map (age w.marks) o) (sym c.in-Some.is ∙ c.first_unheld.ensures ∙ first)
