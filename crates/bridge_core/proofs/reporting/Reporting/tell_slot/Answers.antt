use Rattle.std.proofs.Common.{◌≡◌, [], cond, ap, sym, ◌∙◌}
use Rattle.bridge_core.specs.Lanes.{routed, video_counts, tells}
use Rattle.bridge_core.specs.inner.Visits.{asker_of}
use Rattle.bridge_core.specs.inner.Control.{report_visit, slot_report}
use Rattle.bridge_core.proofs.Told.{ok_alike}
use Rattle.bridge_core.proofs.reporting.Reporting.tell_slot.Goals as goal

pub returns : goal.returns
returns g c = λ before left.
    let due = c.args.self.now in
    let ssrc = c.args.slot.now.out_ssrc in
    let mine = sym c.is_mine.ensures ∙ c.if-not-is_mine.false in
    let say = tells (asker_of due.visit) (report_visit due) due.moment c.args.to.now ssrc in
    let same : say c.video_counts.result ≡ slot_report due before c.args.to.now c.args.slot.now =
    ap say (c.video_counts.ensures before mine left)
    ∙ sym (ap (λ b. cond b (say (video_counts ssrc (routed ssrc before))) []) mine) in
    ok_alike c.tell.result _ _ (say c.video_counts.result) (slot_report due before c.args.to.now c.args.slot.now) same
    c.tell.ensures
