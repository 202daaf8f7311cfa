use Rattle.std.proofs.Common.{rules}
use Rattle.worked_codecs.specs.Compounds.{nack_and_pli}
use Rattle.worked_codecs.proofs.reading_compounds.reads_nack_and_pli.Goals as goal

pub returns : goal.returns
returns c =
    c.read_compound.ensures.only nack_and_pli (c.written_is_compound.ensures nack_and_pli (search rules) (search rules))
