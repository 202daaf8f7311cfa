use Rattle.std.proofs.Common.{◌≡◌, ℕ, List, refl, ap, sym, subst, ◌∙◌}
use Rattle.std.proofs.lemmas.List.{append-nil}
use Rattle.rtp_codec.specs.declared.address.Address.{Address}
use Rattle.ingress.specs.Sources.{Origin}
use Rattle.ingress.specs.Ingested.{datagram_of}
use Rattle.ingress.specs.Taking.{picture_request}
use Rattle.media_front.specs.Tries.{WereTried}
use Rattle.media_front.specs.Paid.{paid_one, after_one, is_paid_for}
use Rattle.media_front.specs.Fronts.{FrontOf}
use Rattle.media_front.specs.Pictures.{HasAsked}
use Rattle.media_front.proofs.front.MediaFront.ask_picture.Goals as goal

pub returns-clause-asked : goal.returns-clause-asked
returns-clause-asked g c =
    let here = c.self.inside in
    let o : Origin = record { address = c.args.to.now; ssrc = c.args.ssrc } in
    let d = datagram_of c.in_ok-request.request in
    let p = picture_request here.ingress.asker o in
    let is : d ≡ p = c.in_ok-request.ensures in
    let before = g.W.Wire.attempts c.args.wire.now in
    let after = g.W.Wire.attempts c.try_one.new.wire in
    let limiter = c.try_one.new.limiter in
    let old : FrontOf g.row.P.Denot g.row.S.Denot =
    record {
      ingress = here.ingress;
      feed = here.feed;
      limiter = here.limiter;
      limited = here.limited;
      ticks = here.ticks;
      reports = here.reports;
    } in
    let new : FrontOf g.row.P.Denot g.row.S.Denot = record old { limiter = limiter } in
    let one : WereTried (paid_one p here.limiter) before after =
    subst (λ (x : Address × List ℕ). WereTried (paid_one x here.limiter) before after) is c.try_one.ensures.tried in
    subst (λ (f : FrontOf g.row.P.Denot g.row.S.Denot). HasAsked o c.try_one.result f new before after) c.self.view_is
    (record {
      handled = λ desk moment. record {
        up =
            subst (λ (ds : List (Address × List ℕ)). WereTried ds before after)
            (sym (append-nil (paid_one p here.limiter)))
            one;
        items = refl;
        limiter = c.try_one.ensures.limiter ∙ ap (λ (x : Address × List ℕ). after_one x here.limiter) is;
        limited = refl;
      };
      answer = c.try_one.ensures.answer ∙ ap (λ (x : Address × List ℕ). is_paid_for x here.limiter) is;
      same = refl;
    })
