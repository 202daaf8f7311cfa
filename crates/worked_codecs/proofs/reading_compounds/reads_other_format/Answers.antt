use Rattle.std.proofs.Common.{rules}
use Rattle.worked_codecs.specs.Compounds.{other_format}
use Rattle.worked_codecs.proofs.reading_compounds.reads_other_format.Goals as goal

pub returns : goal.returns
returns c =
    c.read_compound.ensures.only other_format (c.written_is_compound.ensures other_format (search rules) (search rules))
