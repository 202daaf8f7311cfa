use Rattle.std.proofs.Common.{rules}
use Rattle.worked_codecs.specs.Compounds.{application}
use Rattle.worked_codecs.proofs.reading_compounds.reads_application.Goals as goal

pub returns : goal.returns
returns c =
    c.read_compound.ensures.only application (c.written_is_compound.ensures application (search rules) (search rules))
