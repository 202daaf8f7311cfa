use Rattle.std.proofs.Common.{◌∙◌, sym, ap, subst, refl}
use Rattle.rtcp_codec.specs.View.{packets_of}
use Rattle.ingress.specs.declared.outcome.Outcome.TheVariants.{BadRtcp}
use Rattle.ingress.specs.Readings.{Reading, no_compound, compound}
use Rattle.ingress.specs.Ingested.{Ingested, ingested_of, IsAbout, only}
use Rattle.ingress.specs.Taking.{Datagram, taken_in}
use Rattle.ingress.specs.Ingresses.{Moves}
use Rattle.ingress.specs.inner.Effects.{effect_of}
use Rattle.ingress.proofs.Read.{stays, takes_by, alone_no_compound, alone_compound}
use Rattle.ingress.proofs.AboutLemmas.{about_only}
use Rattle.ingress.proofs.ReceivedLemmas.{of_nobody, of_compound, rtp_rtcp}
use Rattle.ingress.proofs.ingress.Ingress.rtcp.Goals as goal

pub returns-in_ok-outcome-in-Err-clause-takes : goal.returns-in_ok-outcome-in-Err-clause-takes
returns-in_ok-outcome-in-Err-clause-takes g c =
    let old = c.args.self.now in
    let octets = c.args.octets.now in
    let datagram : Reading → Datagram = λ r.
    record { desk = c.args.rows.now; from = c.args.from.now; moment = c.args.moment; reading = r } in
    let fault = c.in-Err.fault in
    takes_by old old _ octets datagram (no_compound fault)
    (alone_no_compound octets fault c.requires (λ f h. (let same = c.in-Err.ensures.told f h in cc))
    (λ ps h. c.in_ok-outcome-in-Err.ensures.fault (c.in-Err.ensures.only ps h)))
    (stays _ (BadRtcp fault) old (λ voice s. taken_in voice s (datagram (no_compound fault)))
    (c.only.ensures.ingest ∙ ap only c.in_ok-outcome-in-Err.ensures.outcome) (λ voice s. refl))

pub returns-in_ok-outcome-in-Err-clause-about : goal.returns-in_ok-outcome-in-Err-clause-about
returns-in_ok-outcome-in-Err-clause-about g c = about_only c.args.from.now _ _ c.only.ensures.ingest

pub returns-in_ok-outcome-in-Err-clause-received : goal.returns-in_ok-outcome-in-Err-clause-received
returns-in_ok-outcome-in-Err-clause-received g c =
    of_nobody c.args.rows.now c.args.from.now c.args.moment c.args.octets.now c.args.self.now.epochs _ _
    c.in_ok-outcome-in-Err.outcome _ _ c.only.ensures.received c.new-received.ensures tt
    (λ h has. rtp_rtcp (sym has.0 ∙ c.requires.its_class))
    (λ p is. rtp_rtcp (sym is.0.its_class ∙ c.requires.its_class))
    (λ n e. let same = sym c.in_ok-outcome-in-Err.ensures.outcome ∙ e in cc)

pub returns-in_ok-effect-in-Ok-clause-takes : goal.returns-in_ok-effect-in-Ok-clause-takes
returns-in_ok-effect-in-Ok-clause-takes g c =
    let old = c.args.self.now in
    let octets = c.args.octets.now in
    let datagram : Reading → Datagram = λ r.
    record { desk = c.args.rows.now; from = c.args.from.now; moment = c.args.moment; reading = r } in
    let packets = c.in-Ok.packets.items in
    takes_by old c.control.new.self (ingested_of c.of.result) octets datagram (compound (packets_of packets))
    (alone_compound octets (packets_of packets) c.requires (λ f h. (let same = c.in-Ok.ensures.told f h in cc))
    (λ qs is. sym (c.in-Ok.ensures.only qs is)))
    (subst (λ (i : Ingested).
    Moves old c.control.new.self i (λ voice s. taken_in voice s (datagram (compound (packets_of packets)))))
    (sym c.of.ensures.ingest)
    (subst
    (λ ps.
    Moves old c.control.new.self (effect_of c.in_ok-effect-in-Ok.effect)
    (λ voice s. taken_in voice s (datagram (compound (packets_of ps)))))
    c.deref.ensures.value c.in_ok-effect-in-Ok.ensures.moves))

pub returns-in_ok-effect-in-Ok-clause-about : goal.returns-in_ok-effect-in-Ok-clause-about
returns-in_ok-effect-in-Ok-clause-about g c =
    subst (λ (i : Ingested). IsAbout c.args.from.now i) (sym c.of.ensures.ingest) c.in_ok-effect-in-Ok.ensures.about

pub returns-in_ok-effect-in-Ok-clause-received : goal.returns-in_ok-effect-in-Ok-clause-received
returns-in_ok-effect-in-Ok-clause-received g c =
    of_compound c.args.rows.now c.args.from.now c.args.moment c.args.octets.now c.args.self.now c.control.new.self
    c.in-Ok.packets _ c.in_ok-effect-in-Ok.effect _ _ c.of.ensures.received c.new-received-in-Ok.ensures c.requires
    c.in-Ok.ensures.found c.in_ok-effect-in-Ok.ensures.begins c.in_ok-effect-in-Ok.ensures.sound
