use Rattle.std.proofs.Common.{◌∙◌, refl, ap, subst}
use Rattle.rtp_codec.specs.declared.address.Address.{Address}
use Rattle.media_front.specs.Pictures.{HasAsked}
use Rattle.picture_requests.specs.declared.source.VideoSource.{VideoSource}
use Rattle.event_loop.specs.Kept.{asked_origin}
use Rattle.event_loop.specs.Turns.{History, Does, history, asked_picture}
use Rattle.event_loop.proofs.StepLemmas.{on_err}
use Rattle.event_loop.proofs.state.FrontState.ask_picture.Goals as goal

pub returns-clause-ok : goal.returns-clause-ok
returns-clause-ok g c =
    let a = c.self.inside in
    let came = g.I.Inlet.came a.inlet in
    let told = g.C.Watch.told a.watch in
    let tried = g.W.Wire.attempts a.wire in
    let source : VideoSource = c.args.source.now in
    let sent = c.in_ok-sent.sent in
    let tries = g.W.Wire.attempts c.ask_picture.new.wire in
    let new = history c.ask_picture.new.self came told tries a.ticked a.stats c.note_picture.new.self in
    subst
    (λ (h : History g.row.P.Denot g.row.S.Denot). Does h (asked_picture (asked_origin source) c.args.now sent) new)
    c.self.view_is (record {
      asked =
          subst
          (λ (to : Address).
          HasAsked (record { address = to; ssrc = source.ssrc }) sent a.media c.ask_picture.new.self tried tries)
          c.address-to.ensures c.in_ok-sent.ensures.asked;
      noted = c.note_picture.ensures;
      same = refl;
    })

pub returns-in_err-sent-clause-err : goal.returns-in_err-sent-clause-err
returns-in_err-sent-clause-err g c =
    let a = c.self.inside in
    let came = g.I.Inlet.came a.inlet in
    let told = g.C.Watch.told a.watch in
    let tried = g.W.Wire.attempts a.wire in
    let same = c.in_err-sent.ensures.err in
    on_err c.from_residual.result
    (ap (λ f. history f came told (g.W.Wire.attempts c.ask_picture.new.wire) a.ticked a.stats a.kept) same.0
    ∙ (ap (λ t. history a.media came told t a.ticked a.stats a.kept) same.1 ∙ c.self.view_is))
