use Rattle.std.proofs.lemmas.Result.{IfOk-weaker}
use Rattle.forward_rewrite.specs.Sending.{sending_of}
use Rattle.forward_rewrite.proofs.Next.{sends_next, count_next, whose_next}
use Rattle.forward_rewrite.proofs.stream.Stream.prepare.Goals as goal

pub returns-clause-sends : goal.returns-clause-sends
returns-clause-sends g c =
    IfOk-weaker c.prepare_by_fields.result _ _
    (λ p h. sends_next c.args.self.now (sending_of c.args.frame.now c.args.stamp c.args.owner) p h)
    c.prepare_by_fields.ensures

pub returns-clause-count : goal.returns-clause-count
returns-clause-count g c =
    IfOk-weaker c.prepare_by_fields.result _ _
    (λ p h. count_next c.args.self.now (sending_of c.args.frame.now c.args.stamp c.args.owner) p h)
    c.prepare_by_fields.ensures

pub returns-clause-whose : goal.returns-clause-whose
returns-clause-whose g c =
    IfOk-weaker c.prepare_by_fields.result _ _
    (λ p h. whose_next c.args.self.now (sending_of c.args.frame.now c.args.stamp c.args.owner) p h)
    c.prepare_by_fields.ensures
