use Rattle.std.proofs.Common.{◌≡◌, ℕ, ◌+◌, min, List, None, map, ap, ◌∙◌, subst}
use Rattle.std.specs.Prelude.{filter, fold, unwrap_or}
use Rattle.frame_gate.specs.Packets.{ext_of}
use Rattle.frame_gate.specs.inner.Kept.{Kept}
use Rattle.frame_gate.specs.Admits.{PreparesMaybe}
use Rattle.frame_gate.specs.Watched.{is_asked, is_lost, limit_of}
use Rattle.frame_gate.specs.Waits.{WatchedOf, PreparedWaitOf}
use Rattle.frame_gate.specs.GivenUp.{missing_in}
use Rattle.frame_gate.proofs.MissingNumbers.{between}
use Rattle.frame_gate.proofs.Missed.{again, gone, later, passing}
use Rattle.frame_gate.proofs.WaitLemmas.{answered}
use Rattle.frame_gate.proofs.watched.WatchedGate.prepare_wait.Goals as goal

pub returns-clause-ok : goal.returns-clause-ok
returns-clause-ok g c =
    let k = c.args.self.now in
    let to = c.missing_end-to.result in
    let seen : c.self.inside.gate ≡ k.gate = ap (λ (x : WatchedOf). x.gate) c.self.view_is in
    let kept = (λ i. (c.self-inside.view_is i).gate) ∙ seen in
    let had = (λ i. (c.self-inside.view_is i).marks.items) ∙ ap (λ (x : WatchedOf). x.marks) c.self.view_is in
    let cells : c.deref.result.now ≡ k.gate.cells = c.deref.ensures.value ∙ ap (λ (x : Kept). x.cells) kept in
    let cells_again : c.deref-3.result.now ≡ k.gate.cells = c.deref-3.ensures.value ∙ ap (λ (x : Kept). x.cells) kept in
    let marks : c.deref-2.result.now ≡ k.marks = c.deref-2.ensures.value ∙ had in
    let marks_again : c.deref-4.result.now ≡ k.marks = c.deref-4.ensures.value ∙ had in
    let next = ap (λ (x : Kept). x.walk.next) kept in
    let end : to ≡ min (unwrap_or k.gate.greatest 0) (k.gate.walk.next + 255) =
    c.missing_end-to.ensures.end ∙ ap (λ (x : Kept). min (unwrap_or x.greatest 0) (x.walk.next + 255)) seen in
    let limit : c.limit-limit.result ≡ limit_of k.answers = c.limit-limit.ensures.limit in
    let r : PreparedWaitOf = record { cuts = c.in_ok-cuts.cuts; nacks = c.in_ok-nacks.nacks.items } in
    λ new commits w h.
    answered k new r w c.last_lost-lost.result h
    (c.last_lost-lost.ensures.last
    ∙ (λ i. fold later None (filter (gone (cells_again i) (limit i) (marks_again i)) (between (next i) to)))
    ∙ ap (λ (ns : List ℕ). fold later None ns)
    (passing k.gate w.epoch to (is_lost (limit_of k.answers) k.marks) h.gate end)
    ∙ (λ i. fold later None (filter (is_lost (limit_of (h.answers i)) (h.marks i)) (missing_in w.epoch))))
    (subst (λ (x : Kept). PreparesMaybe x c.last_lost-lost.result c.in_ok-cuts.cuts) seen c.in_ok-cuts.ensures)
    (c.in_ok-nacks.ensures.items
    ∙ (λ i. map ext_of (filter (again (cells i) (marks i)) (between (next i) to)))
    ∙ ap (λ (ns : List ℕ). map ext_of ns) (passing k.gate w.epoch to (is_asked k.marks) h.gate end)
    ∙ ap (λ (ms : List ℕ). map ext_of (filter (is_asked ms) (missing_in w.epoch))) h.marks)
    commits
