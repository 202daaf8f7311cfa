use Rattle.std.proofs.Common.{◌∙◌, sym, ap}
use Rattle.udp_table.specs.Table.{or_else, line_tells}
use Rattle.udp_table.specs.inner.Steps.{told_or}
use Rattle.udp_table.proofs.reader.TableReader.told.Goals as goal

pub returns-in-None : goal.returns-in-None
returns-in-None c =
    c.line_tells.ensures
    ∙ (ap (line_tells c.self.inside.inode) c.as_slice.ensures.value
    ∙ (ap (λ told. or_else told (line_tells c.self.inside.inode c.self.inside.line.items)) (sym c.in-None.is)
    ∙ ap told_or c.self.view_is))
