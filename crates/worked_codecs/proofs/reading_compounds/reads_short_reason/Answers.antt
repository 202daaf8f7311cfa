use Rattle.std.proofs.Common.{rules}
use Rattle.worked_codecs.specs.Compounds.{short_reason}
use Rattle.worked_codecs.proofs.reading_compounds.reads_short_reason.Goals as goal

pub returns : goal.returns
returns c =
    c.read_compound.ensures.only short_reason (c.written_is_compound.ensures short_reason (search rules) (search rules))
