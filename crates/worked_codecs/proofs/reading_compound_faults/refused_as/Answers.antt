use Rattle.std.proofs.Common.{arith, inl}
use Rattle.worked_codecs.proofs.reading_compound_faults.refused_as.Goals as goal

pub returns : goal.returns
returns c =
    let t = c.read_compound.ensures.told c.args._fault (inl c.requires) in
    grind (arith, t, c.err.ensures.value)
