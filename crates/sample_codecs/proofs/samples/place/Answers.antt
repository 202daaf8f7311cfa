use Rattle.std.proofs.Common.{arith}
use Rattle.sample_codecs.proofs.Placing.{zeros_of, place_at}
use Rattle.sample_codecs.proofs.samples.place.Goals as goal

pub returns : goal.returns
returns c =
    let z = zeros_of c.args.biased (omega arith) (omega arith) in
    place_at _ c.args.biased z.0 z.1 z.2 z.3

pub overflow_sub-segment : goal.overflow_sub-segment
overflow_sub-segment c = (zeros_of c.args.biased (omega arith) (omega arith)).0
