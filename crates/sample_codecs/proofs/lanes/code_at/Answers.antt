use Rattle.std.proofs.Common.{rules, ◌-◌}
use Rattle.sample_codecs.specs.MuLaw.{Holds}
use Rattle.sample_codecs.proofs.Holding.{only_one}
use Rattle.sample_codecs.proofs.lanes.code_at.Goals as goal

pub returns : goal.returns
returns c =
    let holds : Holds c.args.sample (255 - c.if-sample-lt0.sign - c.args.place) = search rules in
    record { holds = holds; one = λ code h. only_one c.args.sample code _ h holds }
