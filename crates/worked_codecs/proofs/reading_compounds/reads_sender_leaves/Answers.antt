use Rattle.std.proofs.Common.{rules}
use Rattle.worked_codecs.specs.Compounds.{sender_leaves}
use Rattle.worked_codecs.proofs.reading_compounds.reads_sender_leaves.Goals as goal

pub returns : goal.returns
returns c =
    c.read_compound.ensures.only sender_leaves
    (c.written_is_compound.ensures sender_leaves (search rules) (search rules))
