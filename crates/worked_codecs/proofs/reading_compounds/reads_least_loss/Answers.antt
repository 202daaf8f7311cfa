use Rattle.std.proofs.Common.{rules}
use Rattle.worked_codecs.specs.Compounds.{least_loss}
use Rattle.worked_codecs.proofs.reading_compounds.reads_least_loss.Goals as goal

pub returns : goal.returns
returns c =
    c.read_compound.ensures.only least_loss (c.written_is_compound.ensures least_loss (search rules) (search rules))
