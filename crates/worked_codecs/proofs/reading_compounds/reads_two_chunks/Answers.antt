use Rattle.std.proofs.Common.{rules}
use Rattle.worked_codecs.specs.Compounds.{two_chunks}
use Rattle.worked_codecs.proofs.reading_compounds.reads_two_chunks.Goals as goal

pub returns : goal.returns
returns c =
    c.read_compound.ensures.only two_chunks (c.written_is_compound.ensures two_chunks (search rules) (search rules))
