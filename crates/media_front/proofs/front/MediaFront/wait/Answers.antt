use Rattle.std.proofs.Common.{◌≡◌, length, refl, ap, sym, subst, inr}
use Rattle.std.specs.declared.alloc.Global.{Global}
use Rattle.ingress.specs.declared.received.Received.{Received}
use Rattle.ingress.specs.Ingested.{Ingested, IsAbout, answered_of}
use Rattle.ingress.specs.Ingresses.{WaitsFor}
use Rattle.ingress.specs.Sources.{Origin}
use Rattle.ingress.specs.inner.Holding.{IngressOf}
use Rattle.media_front.specs.Fronts.{FrontOf, Arrival, HasHandled}
use Rattle.media_front.specs.Waits.{silence, HasWaited, MayHaveWaited}
use Rattle.media_front.proofs.WaitLemmas.{on_err, handled_at, with_answer}
use Rattle.media_front.proofs.front.MediaFront.wait.Goals as goal

pub returns-in_err-handle-clause-ingress : goal.returns-in_err-handle-clause-ingress
returns-in_err-handle-clause-ingress g c =
    let o : Origin = record { address = c.args.from.now; ssrc = c.args.ssrc } in
    on_err c.from_residual-in_err-handle.result
    (subst (λ (i : IngressOf). MayHaveWaited c.args.rows.now o c.args.moment i c.handle.new.self.ingress)
    (ap (λ (f : FrontOf g.row.P.Denot g.row.S.Denot). f.ingress) c.self.view_is)
    (subst (λ (i : IngressOf). MayHaveWaited c.args.rows.now o c.args.moment c.self.inside.ingress i)
    (sym (ap (λ (f : FrontOf g.row.P.Denot g.row.S.Denot). f.ingress) c.handle.ensures.same))
    (inr (answered_of c.in_ok-answer.answer, c.in_ok-answer.ensures.waits))))

pub returns-clause-waited : goal.returns-clause-waited
returns-clause-waited g c =
    let here = c.self.inside in
    let desk = c.args.rows.now in
    let o : Origin = record { address = c.args.from.now; ssrc = c.args.ssrc } in
    let answer = c.in_ok-answer.answer in
    let before = g.W.Wire.attempts c.args.wire.now in
    let after = g.W.Wire.attempts c.handle.new.wire in
    let old : FrontOf g.row.P.Denot g.row.S.Denot =
    record {
      ingress = here.ingress;
      feed = here.feed;
      limiter = here.limiter;
      limited = here.limited;
      ticks = here.ticks;
      reports = here.reports;
    } in
    let is = c.silence-received.ensures in
    let arrival : Arrival = silence desk o.address c.args.moment in
    let mid : FrontOf g.row.P.Denot g.row.S.Denot = record old { ingress = c.wait.new.self } in
    subst (λ (f : FrontOf g.row.P.Denot g.row.S.Denot). HasWaited desk o c.args.moment f c.handle.new.self before after)
    c.self.view_is
    (record {
      ingested = answered_of answer;
      became = refl;
      waits =
          subst (λ (i : IngressOf). WaitsFor here.ingress i (answered_of answer) desk o c.args.moment)
          (sym (ap (λ (f : FrontOf g.row.P.Denot g.row.S.Denot). f.ingress) c.handle.ensures.same))
          c.in_ok-answer.ensures.waits;
      handled =
          handled_at arrival (answered_of answer) mid old c.handle.new.self before after refl refl
          refl c.wait.ensures.asker
          (subst (λ (i : Ingested). HasHandled arrival i mid c.handle.new.self before after)
          (ap (λ (r : Received Global). with_answer r answer) is)
          (c.in_ok-handle.ensures.handled arrival
          (subst
          (λ (r : Received Global).
          r ≡ record r { from = o.address; moment = c.args.moment; octets = length arrival.octets })
          (sym is) refl)));
    })

pub handle-requires : goal.handle-requires
handle-requires g c =
    let answer = c.in_ok-answer.answer in
    record {
      about =
          subst (λ (r : Received Global). IsAbout r.from (with_answer r answer)) (sym c.silence-received.ensures)
          c.in_ok-answer.ensures.about;
    }
