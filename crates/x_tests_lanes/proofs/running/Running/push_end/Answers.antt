use Rattle.std.proofs.Common.{◌∙◌, arith}
use Rattle.media_workers.specs.Ports.{accept}
use Rattle.media_workers.specs.declared.parcel.Parcel.TheVariants.{End}
use Rattle.x_tests_lanes.proofs.Listed.{kept_by_end}
use Rattle.x_tests_lanes.proofs.running.Running.push_end.Goals as goal

pub invariant_of-self : goal.invariant_of-self
invariant_of-self g c =
    let old = c.args.self.now in
    record {
      many =
          kept_by_end old.bridge c.push_end.new.self c.args.lane (accept End)
          (omega (arith, c.if-lane-self.false, old.many))
          c.push_end.ensures.ended
          ∙ old.many;
    }
