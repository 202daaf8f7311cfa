use Rattle.std.proofs.Common.{Bool, sym, subst}
use Rattle.event_loop.specs.Shapes.{IsPassed}
use Rattle.event_loop.specs.inner.Reading.{IsReadOnce}
use Rattle.event_loop.proofs.StepLemmas.{passes_by}
use Rattle.event_loop.proofs.rounds.Rounds.drop_datagram.Goals as goal

pub returns : goal.returns
returns g c =
    let p =
    passes_by c.args.self.now.state c.drop_next.new.self c.in_ok-read.read c.drop_next.new.chunk.items
    c.in_ok-read.ensures.ok in
    (p.0, p.1, subst (λ (b : Bool). IsReadOnce IsPassed b p.0) (sym c.is_something.ensures) p.2)
