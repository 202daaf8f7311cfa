use Rattle.std.proofs.Common.{◌≡◌, [], cond, ap, sym, ◌∙◌}
use Rattle.mixer.specs.Mixes.{turns, counts_of}
use Rattle.bridge_core.specs.Lanes.{given_of, tells}
use Rattle.bridge_core.specs.inner.Visits.{asker_of}
use Rattle.bridge_core.specs.inner.Control.{report_visit, mix_report}
use Rattle.bridge_core.proofs.Told.{ok_alike}
use Rattle.bridge_core.proofs.reporting.Reporting.tell_mix.Goals as goal

pub returns : goal.returns
returns g c = λ before left.
    let due = c.args.self.now in
    let at = due.visit.place in
    let ssrc = c.args.to.now.out_audio in
    let mine = sym c.is_mine.ensures ∙ c.if-not-is_mine.false in
    let say = tells (asker_of due.visit) (report_visit due) due.moment c.args.to.now ssrc in
    let same : say c.counts.result ≡ mix_report due before c.args.to.now =
    ap say (c.counts.ensures at.lane at.lanes (given_of before) mine left.1)
    ∙ sym (ap (λ b. cond b (say (counts_of ssrc (turns ssrc (given_of before)))) []) mine) in
    ok_alike c.tell.result _ _ (say c.counts.result) (mix_report due before c.args.to.now) same c.tell.ensures
