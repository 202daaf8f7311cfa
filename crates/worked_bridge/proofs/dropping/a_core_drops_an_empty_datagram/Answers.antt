use Rattle.std.proofs.Common.{arith, refl}
use Rattle.std.proofs.lemmas.Result.{IfOk-weaker}
use Rattle.ingress.specs.Readings.{neither}
use Rattle.worked_bridge.proofs.dropping.a_core_drops_an_empty_datagram.Goals as goal

pub returns : goal.returns
returns c = IfOk-weaker c.datagram.result _ _ (λ ingest takes s knows.
    let voice = c.voices_are_there.ensures c.args.core.now.ingress.asker in
    takes neither (record { length_fits = omega arith; its_class = refl }) voice.0 s voice.1 voice.2 knows)
    c.datagram.ensures.takes
