use Rattle.std.proofs.Common.{rules}
use Rattle.worked_codecs.specs.Compounds.{report_alone}
use Rattle.worked_codecs.proofs.reading_compounds.reads_report_alone.Goals as goal

pub returns : goal.returns
returns c =
    c.read_compound.ensures.only report_alone (c.written_is_compound.ensures report_alone (search rules) (search rules))
