use Rattle.std.proofs.Common.{◌∙◌, sym, refl, arith}
use Rattle.ingress.specs.declared.outcome.Outcome.TheVariants.{TooLong, Neither}
use Rattle.ingress.specs.Readings.{Reading, too_long, neither}
use Rattle.ingress.specs.Taking.{Datagram, taken_in}
use Rattle.ingress.proofs.Read.{stays, takes_by, alone_too_long, alone_neither}
use Rattle.ingress.proofs.AboutLemmas.{about_only}
use Rattle.ingress.proofs.ReceivedLemmas.{of_nobody, rtp_neither}
use Rattle.ingress.proofs.ingress.Ingress.datagram.Goals as goal

pub returns-then-octets-gt-MOST_OCTETS-clause-takes : goal.returns-then-octets-gt-MOST_OCTETS-clause-takes
returns-then-octets-gt-MOST_OCTETS-clause-takes g c =
    let old = c.args.self.now in
    let octets = c.args.octets.now in
    let datagram : Reading → Datagram = λ r.
    record { desk = c.args.rows.now; from = c.args.from.now; moment = c.args.moment; reading = r } in
    takes_by old old _ octets datagram too_long (alone_too_long octets c.if-octets-gt-MOST_OCTETS.true)
    (stays _ TooLong old (λ voice s. taken_in voice s (datagram too_long))
    c.only.ensures.ingest
    (λ voice s. refl))

pub returns-in-Neither-clause-takes : goal.returns-in-Neither-clause-takes
returns-in-Neither-clause-takes g c =
    let old = c.args.self.now in
    let octets = c.args.octets.now in
    let datagram : Reading → Datagram = λ r.
    record { desk = c.args.rows.now; from = c.args.from.now; moment = c.args.moment; reading = r } in
    takes_by old old _ octets datagram neither
    (alone_neither octets
    (record {
      length_fits = c.if-octets-gt-MOST_OCTETS.false;
      its_class = sym c.classify-class.ensures ∙ c.in-Neither.is;
    }))
    (stays _ Neither old (λ voice s. taken_in voice s (datagram neither))
    c.only-in-Neither.ensures.ingest
    (λ voice s. refl))

pub returns-then-octets-gt-MOST_OCTETS-clause-about : goal.returns-then-octets-gt-MOST_OCTETS-clause-about
returns-then-octets-gt-MOST_OCTETS-clause-about g c = about_only c.args.from.now _ _ c.only.ensures.ingest

pub returns-in-Neither-clause-about : goal.returns-in-Neither-clause-about
returns-in-Neither-clause-about g c = about_only c.args.from.now _ _ c.only-in-Neither.ensures.ingest

pub returns-then-octets-gt-MOST_OCTETS-clause-received : goal.returns-then-octets-gt-MOST_OCTETS-clause-received
returns-then-octets-gt-MOST_OCTETS-clause-received g c =
    of_nobody c.args.rows.now c.args.from.now c.args.moment c.args.octets.now c.args.self.now.epochs _ _ TooLong _ _
    c.only.ensures.received c.new-received.ensures c.header_in-header.ensures.found c.header_in-header.ensures.none
    (λ p is. omega (arith, c.if-octets-gt-MOST_OCTETS.true, is.0.length_fits)) (λ n e. cc)

pub returns-in-Neither-clause-received : goal.returns-in-Neither-clause-received
returns-in-Neither-clause-received g c =
    of_nobody c.args.rows.now c.args.from.now c.args.moment c.args.octets.now c.args.self.now.epochs _ _ Neither _ _
    c.only-in-Neither.ensures.received c.new-received-in-Neither.ensures tt
    (λ h has. rtp_neither (sym has.0 ∙ (sym c.classify-class.ensures ∙ c.in-Neither.is)))
    (λ p is. rtp_neither (sym is.0.its_class ∙ (sym c.classify-class.ensures ∙ c.in-Neither.is))) (λ n e. cc)
