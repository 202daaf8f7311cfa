use Rattle.std.proofs.Common.{◌∙◌, arith}
use Rattle.media_workers.specs.Ports.{accept}
use Rattle.x_tests_lanes.proofs.Listed.{kept_by_push}
use Rattle.x_tests_lanes.proofs.running.Running.push.Goals as goal

pub invariant_of-self : goal.invariant_of-self
invariant_of-self g c =
    let old = c.args.self.now in
    record {
      many =
          kept_by_push c.push.result old.bridge c.push.new.self c.args.lane (accept c.args.parcel) _ _
          (omega (arith, c.if-lane-self.false, old.many)) c.push.ensures.ok c.push.ensures.err
          ∙ old.many;
    }
