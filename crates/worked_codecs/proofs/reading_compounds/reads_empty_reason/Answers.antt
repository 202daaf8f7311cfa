use Rattle.std.proofs.Common.{rules}
use Rattle.worked_codecs.specs.Compounds.{empty_reason}
use Rattle.worked_codecs.proofs.reading_compounds.reads_empty_reason.Goals as goal

pub returns : goal.returns
returns c =
    c.read_compound.ensures.only empty_reason (c.written_is_compound.ensures empty_reason (search rules) (search rules))
