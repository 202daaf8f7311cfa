use Rattle.std.proofs.Common.{◌≡◌, false, None}
use Rattle.media_workers.specs.declared.parcel.Parcel.TheVariants.{Work}
use Rattle.media_workers.specs.Ports.{accept}
use Rattle.x_bench.proofs.Places.{long_if_ok}
use Rattle.x_bench.proofs.feeding.push_item.Goals as goal

pub returns : goal.returns
returns g c =
    long_if_ok c.push.result c.args.bridge.now c.push.new.self c.args.lane (λ p. p.closed ≡ false)
    (accept (Work c.args.item None)) (λ b. b ≡ Work c.args.item None) c.requires.lane c.push.ensures.ok
    c.push.ensures.err
