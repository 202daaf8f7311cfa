use Rattle.std.proofs.Common.{◌∙◌, sym, ap}
use Rattle.udp_table.specs.Table.{told_or_none}
use Rattle.udp_table.specs.Kept.{Kept}
use Rattle.udp_table.proofs.reader.TableReader.drops.Goals as goal

pub returns-in-None : goal.returns-in-None
returns-in-None c = λ text read.
    sym (ap told_or_none (sym read.told ∙ (sym (ap (λ (k : Kept). k.told) c.self.view_is) ∙ c.in-None.is)))

pub returns-in-Some : goal.returns-in-Some
returns-in-Some c = λ text read.
    sym (ap told_or_none (sym read.told ∙ (sym (ap (λ (k : Kept). k.told) c.self.view_is) ∙ c.in-Some.is)))
