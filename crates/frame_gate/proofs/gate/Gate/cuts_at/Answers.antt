use Rattle.std.proofs.Common.{◌≡◌, ◌+◌, ◌<◌, true, false, List, Option, None, refl, sym, ap, ◌∙◌, subst, arith}
use Rattle.frame_gate.specs.Packets.{NumberedPacket}
use Rattle.frame_gate.specs.Frame.{WholeFrame}
use Rattle.frame_gate.specs.declared.walk.Walk.{Walk}
use Rattle.frame_gate.specs.inner.Cells.{held}
use Rattle.frame_gate.specs.inner.Kept.{Kept, PreparedCutsOf}
use Rattle.frame_gate.specs.inner.Ties.{Tied}
use Rattle.frame_gate.specs.Epochs.{frames_of, resynced}
use Rattle.frame_gate.specs.GivenUp.{is_missing}
use Rattle.frame_gate.proofs.GivingUp.{knows_missing, gave_up, gave_nothing}
use Rattle.frame_gate.proofs.gate.Gate.cuts_at.Goals as goal

pub returns-then-not-is_missing : goal.returns-then-not-is_missing
returns-then-not-is_missing g c =
    let k = c.args.self.now in
    let n = c.args.number in
    λ new commits e h.
    let is : is_missing e n ≡ false =
    sym (knows_missing k e n h) ∙ sym c.is_missing.ensures ∙ c.if-not-is_missing.true in
    gave_nothing k new e n c.no_cuts.result h is c.no_cuts.ensures.walk c.no_cuts.ensures.frames c.no_cuts.ensures.pli
    commits

pub returns : goal.returns
returns g c =
    let k = c.args.self.now in
    let n = c.args.number in
    let cells : c.deref.result.now ≡ k.cells = c.deref.ensures.value ∙ ap (λ (x : Kept). x.cells) c.self.view_is in
    let walk : c.self.inside.walk ≡ k.walk = ap (λ (x : Kept). x.walk) c.self.view_is in
    let w = c.in_ok-walk.walk in
    let out = c.resync.new.frames.items in
    let r : PreparedCutsOf = record { walk = w; answer = record { frames = out; pli = true } } in
    λ new commits e h.
    let is : is_missing e n ≡ true =
    sym (knows_missing k e n h) ∙ sym c.is_missing.ensures ∙ c.if-not-is_missing.false in
    let begun : Tied (held c.deref.result.now None) (frames_of e) e c.self.inside.walk c.new-frames.result.items =
    subst
    (λ (cs : List (Option NumberedPacket)).
    Tied (held cs None) (frames_of e) e c.self.inside.walk c.new-frames.result.items)
    (sym cells)
    (subst (λ (v : Walk). Tied (held k.cells None) (frames_of e) e v c.new-frames.result.items) (sym walk)
    (subst (λ (fs : List WholeFrame). Tied (held k.cells None) (frames_of e) e k.walk fs)
    (sym c.new-frames.ensures.items) h.tied)) in
    let lt : n + 256 < c.self.inside.walk.next + 256 + (n + 256) = omega arith in
    let tied : Tied (held k.cells None) (frames_of e) (resynced (n + 256) e (n + 256)) w out =
    subst
    (λ (cs : List (Option NumberedPacket)). Tied (held cs None) (frames_of e) (resynced (n + 256) e (n + 256)) w out)
    cells
    (c.in_ok-walk.ensures.tied (frames_of e) e (n + 256) begun lt) in
    let over : n < w.next = omega (arith, c.in_ok-walk.ensures.capacity) in
    gave_up k new e n r h is tied refl over commits
