use Rattle.std.proofs.Common.{arith, refl}
use Rattle.std.proofs.lemmas.Result.{IfOk-weaker}
use Rattle.ingress.specs.Readings.{neither}
use Rattle.ingress.specs.Sources.{no_sources}
use Rattle.worked_bridge.proofs.dropping.an_empty_datagram_is_dropped.Goals as goal

pub returns : goal.returns
returns c = IfOk-weaker c.datagram.result _ _ (λ ingest takes.
    let voice = c.voices_are_there.ensures c.in_ok-ingress.ingress.asker in
    (takes neither (record { length_fits = omega arith; its_class = refl }) voice.0 no_sources voice.1 voice.2
    c.in_ok-ingress.ensures.knows).0)
    c.datagram.ensures.takes
