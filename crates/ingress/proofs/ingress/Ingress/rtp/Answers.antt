use Rattle.std.proofs.Common.{◌∙◌, Option, sym, ap, subst, refl}
use Rattle.rtp_codec.specs.View.{packet_of}
use Rattle.ingress.specs.declared.outcome.Outcome.TheVariants.{BadRtp}
use Rattle.ingress.specs.Readings.{Reading, no_packet, packet}
use Rattle.desk_rows.specs.declared.row.Source.{Source}
use Rattle.ingress.specs.Ingested.{Ingested, ingested_of, IsAbout}
use Rattle.ingress.specs.Energy.{counted_as, samples_for, sound_in}
use Rattle.ingress.specs.Received.{row_in}
use Rattle.ingress.specs.Ingresses.{Moves}
use Rattle.ingress.specs.Taking.{Datagram, taken_in, of_row}
use Rattle.ingress.specs.inner.Effects.{effect_of}
use Rattle.ingress.proofs.Read.{stays, takes_by, alone_no_packet, alone_packet}
use Rattle.ingress.proofs.AboutLemmas.{about_only}
use Rattle.ingress.proofs.ReceivedLemmas.{of_nobody, of_packet}
use Rattle.ingress.proofs.ingress.Ingress.rtp.Goals as goal

pub returns-in-Err-clause-takes : goal.returns-in-Err-clause-takes
returns-in-Err-clause-takes g c =
    let old = c.args.self.now in
    let octets = c.args.octets.now in
    let datagram : Reading → Datagram = λ r.
    record { desk = c.args.rows.now; from = c.args.from.now; moment = c.args.moment; reading = r } in
    takes_by old old _ octets datagram (no_packet c.in-Err.fault)
    (alone_no_packet octets c.in-Err.fault c.requires c.in-Err.ensures.fault c.in-Err.ensures.only)
    (stays _ (BadRtp c.in-Err.fault) old (λ voice s. taken_in voice s (datagram (no_packet c.in-Err.fault)))
    c.only.ensures.ingest (λ voice s. refl))

pub returns-in-Err-clause-about : goal.returns-in-Err-clause-about
returns-in-Err-clause-about g c = about_only c.args.from.now _ _ c.only.ensures.ingest

pub returns-in-Err-clause-received : goal.returns-in-Err-clause-received
returns-in-Err-clause-received g c =
    of_nobody c.args.rows.now c.args.from.now c.args.moment c.args.octets.now c.args.self.now.epochs _ _
    (BadRtp c.in-Err.fault) _ _ c.only.ensures.received c.new-received.ensures tt
    (λ h has. c.in-Err.ensures.only has.1 has.2) (λ p is. c.in-Err.ensures.only p is.1) (λ n e. cc)

pub returns-in_ok-effect-in-Ok-clause-takes : goal.returns-in_ok-effect-in-Ok-clause-takes
returns-in_ok-effect-in-Ok-clause-takes g c =
    let old = c.args.self.now in
    let octets = c.args.octets.now in
    let datagram : Reading → Datagram = λ r.
    record { desk = c.args.rows.now; from = c.args.from.now; moment = c.args.moment; reading = r } in
    let view = c.in-Ok.view in
    takes_by old c.media.new.self (ingested_of c.of.result) octets datagram (packet (packet_of view))
    (alone_packet octets (packet_of view) c.requires c.in-Ok.ensures.fault (λ q is. sym (c.in-Ok.ensures.only q is)))
    (subst (λ (i : Ingested).
    Moves old c.media.new.self i (λ voice s. taken_in voice s (datagram (packet (packet_of view)))))
    (sym c.of.ensures.ingest)
    (subst (λ (row : Option Source).
    Moves old c.media.new.self (effect_of c.in_ok-effect-in-Ok.effect)
    (λ voice s. of_row voice c.args.rows.now row
    (record { from = c.args.from.now; moment = c.args.moment; packet = packet_of view }) s))
    c.source_from-source.ensures c.in_ok-effect-in-Ok.ensures.moves))

pub returns-in_ok-effect-in-Ok-clause-about : goal.returns-in_ok-effect-in-Ok-clause-about
returns-in_ok-effect-in-Ok-clause-about g c =
    subst (λ (i : Ingested). IsAbout c.args.from.now i) (sym c.of.ensures.ingest) c.in_ok-effect-in-Ok.ensures.about

pub returns-in_ok-effect-in-Ok-clause-received : goal.returns-in_ok-effect-in-Ok-clause-received
returns-in_ok-effect-in-Ok-clause-received g c =
    let octets = c.args.octets.now in
    let p = packet_of c.in-Ok.view in
    let effect = c.in_ok-effect-in-Ok.effect in
    of_packet c.args.rows.now c.args.from.now c.args.moment octets c.args.self.now c.media.new.self _ _
    c.source_from-source.result c.in_ok-effect-in-Ok.effect _ _ c.of.ensures.received c.new-received-in-Ok.ensures
    (c.requires.its_class, p, c.in-Ok.ensures.found, sym c.header_of-header.ensures)
    (λ r is.
    c.source_from-source.ensures
    ∙ ap (row_in c.args.rows.now c.args.from.now)
    (sym (alone_packet octets p c.requires c.in-Ok.ensures.fault (λ q k. sym (c.in-Ok.ensures.only q k)) r is)))
    c.in_ok-effect-in-Ok.ensures.packet
    (λ r is.
    c.in_ok-effect-in-Ok.ensures.sound
    ∙ (ap (λ (row : Option Source). counted_as effect.outcome (samples_for c.args.rows.now row p))
    c.source_from-source.ensures
    ∙ ap (sound_in c.args.rows.now c.args.from.now effect.outcome)
    (sym (alone_packet octets p c.requires c.in-Ok.ensures.fault (λ q k. sym (c.in-Ok.ensures.only q k)) r is))))
