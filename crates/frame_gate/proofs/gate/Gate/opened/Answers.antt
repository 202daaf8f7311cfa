use Rattle.std.proofs.Common.{◌≡◌, ℕ, arith, [], None, sym, ap, ◌∙◌, subst}
use Rattle.frame_gate.specs.Packets.{NumberedPacket}
use Rattle.frame_gate.specs.Epochs.{opened, frames_of}
use Rattle.frame_gate.specs.inner.Cells.{held}
use Rattle.frame_gate.specs.inner.Kept.{Kept}
use Rattle.frame_gate.specs.inner.Ties.{Tied, begun_at}
use Rattle.frame_gate.proofs.Answered.{opened_none, none_there}
use Rattle.frame_gate.proofs.gate.Gate.opened.Goals as goal

pub returns-else-is_some-clause-tied : goal.returns-else-is_some-clause-tied
returns-else-is_some-clause-tied g c = λ e h.
    let k = c.args.self.now in
    let p = c.args.packet.now in
    let none : k.greatest ≡ None =
    sym (ap (λ (x : Kept). x.greatest) c.self.view_is)
    ∙ none_there c.self.inside.greatest (sym c.is_some.ensures ∙ c.if-is_some.false) in
    subst (λ (n : ℕ). Tied (held k.cells None) (frames_of e) (opened e p) (begun_at n) [])
    (sym (ap (λ (q : NumberedPacket). q.number) c.packet.view_is))
    (opened_none k e.taken e.cut e.earlier p h none)

pub returns-else-is_some-clause-above : goal.returns-else-is_some-clause-above
returns-else-is_some-clause-above g c = λ e h.
    let k = c.args.self.now in
    let none : k.greatest ≡ None =
    sym (ap (λ (x : Kept). x.greatest) c.self.view_is)
    ∙ none_there c.self.inside.greatest (sym c.is_some.ensures ∙ c.if-is_some.false) in
    let zero : k.walk.next ≡ 0 = (h.empty none).0 in
    omega arith
