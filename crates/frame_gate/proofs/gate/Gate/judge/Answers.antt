use Rattle.std.proofs.Common.{◌≡◌, ℕ, ◌<◌, ◌≤◌, ◌%◌, [], List, length, map, Option, None, Some, set, sym, ap, ◌∙◌}
use Rattle.std.proofs.Common.{subst, arith}
use Rattle.frame_gate.specs.Packets.{NumberedPacket, ext_of}
use Rattle.std.specs.Prelude.{is_some}
use Rattle.frame_gate.specs.declared.packet.Place.TheVariants.{Late, Duplicate}
use Rattle.frame_gate.specs.inner.Kept.{Kept}
use Rattle.frame_gate.specs.inner.Cells.{held}
use Rattle.frame_gate.specs.Epochs.{next_of, frames_of, opened, taking, resynced, top, missing_above}
use Rattle.frame_gate.specs.inner.Ties.{Tied}
use Rattle.frame_gate.proofs.Results.{if_ok_five}
use Rattle.frame_gate.proofs.Answered.{something_new, opened-taken, none_of, some_copied, place_late, place_duplicate}
use Rattle.frame_gate.proofs.Answered.{nothing_new}
use Rattle.frame_gate.proofs.gate.Gate.judge.Goals as goal

pub returns-clause-ok : goal.returns-clause-ok
returns-clause-ok g c =
    let k = c.args.self.now in
    let p = c.args.packet in
    let n = p.number in
    let same : c.packet.inside.number ≡ n = ap (λ (q : NumberedPacket). q.number) c.packet.view_is in
    let walk = c.opened-walk.result in
    let seen = ap (λ (x : Kept). x.cells) c.self.view_is in
    let first : c.deref.result.now ≡ k.cells = c.deref.ensures.value ∙ seen in
    let second : c.deref-2.result.now ≡ k.cells = c.deref-2.ensures.value ∙ seen in
    let most : c.self.inside.greatest ≡ k.greatest = ap (λ (x : Kept). x.greatest) c.self.view_is in
    let free : held k.cells None n ≡ None =
    sym (ap (λ (cs : List (Option NumberedPacket)). held cs None n) first)
    ∙ sym (ap (λ (m : ℕ). held c.deref.result.now None m) same)
    ∙ sym c.find_held.ensures
    ∙ none_of c.find_held.result (sym c.is_some.ensures ∙ c.if-is_some.false) in
    let long : length k.cells ≡ 256 =
    (let e = ap length seen in let ok = c.self.inside.cells.ok in let all = c.self.invariant.0 in omega arith) in
    if_ok_five c.take.result _ _ _ _ _ _
    (λ r tied nacks pli place packet new commits e h.
    let begun = c.opened-walk.ensures.tied e h in
    let above : walk.next ≤ n = omega (arith, same, c.if-packet-walk.false) in
    let over : k.walk.next ≤ n = (let a = c.opened-walk.ensures.above e h in omega arith) in
    let there =
    subst (λ (cs : List (Option NumberedPacket)). Tied (held cs None) (frames_of e) (opened e p) walk []) (sym second)
    begun in
    let after =
    tied (frames_of e) (opened e p) there (most ∙ h.greatest ∙ ap top (sym (opened-taken e.taken e.cut e.earlier p))) in
    something_new k new e p r walk h begun above over long free
    (subst
    (λ (cs : List (Option NumberedPacket)).
    Tied (held (set cs (n % 256) (Some p)) None) (frames_of e) (taking (resynced n (opened e p) n) p) r.walk
    r.answer.frames)
    second after)
    (nacks ∙ ap (λ o. map ext_of (missing_above o r.walk.next n)) most) pli place packet commits)
    c.take.ensures.tied c.take.ensures.nacks c.take.ensures.pli c.take.ensures.place c.take.ensures.packet

pub returns-then-is_some-clause-ok : goal.returns-then-is_some-clause-ok
returns-then-is_some-clause-ok g c =
    let k = c.args.self.now in
    let p = c.args.packet in
    let n = p.number in
    let same : c.packet.inside.number ≡ n = ap (λ (q : NumberedPacket). q.number) c.packet.view_is in
    let r = c.unchanged-then-is_some.result in
    let gives = c.unchanged-then-is_some.ensures in
    let first : c.deref.result.now ≡ k.cells = c.deref.ensures.value ∙ ap (λ (x : Kept). x.cells) c.self.view_is in
    let there =
    sym (ap (λ (cs : List (Option NumberedPacket)). is_some (held cs None n)) first)
    ∙ sym (ap (λ (m : ℕ). is_some (held c.deref.result.now None m)) same)
    ∙ ap is_some (sym c.find_held.ensures)
    ∙ some_copied c.find_held.result
    ∙ sym c.is_some.ensures
    ∙ c.if-is_some.true in
    λ new commits e h.
    let begun = c.opened-walk.ensures.tied e h in
    let above : c.opened-walk.result.next ≤ n = omega (arith, same, c.if-packet-walk.false) in
    nothing_new k new e p r Duplicate tt (place_duplicate k e p c.opened-walk.result begun above there) h gives.place
    gives.frames gives.nacks gives.pli commits

pub returns-then-packet-walk-clause-ok : goal.returns-then-packet-walk-clause-ok
returns-then-packet-walk-clause-ok g c =
    let k = c.args.self.now in
    let p = c.args.packet in
    let same : c.packet.inside.number ≡ p.number = ap (λ (q : NumberedPacket). q.number) c.packet.view_is in
    let r = c.unchanged.result in
    let gives = c.unchanged.ensures in
    λ new commits e h.
    let begun = c.opened-walk.ensures.tied e h in
    let below : p.number < next_of (opened e p) = omega (arith, same, c.if-packet-walk.true, begun.stands.next) in
    nothing_new k new e p r Late tt (place_late e p below) h gives.place gives.frames gives.nacks gives.pli commits
