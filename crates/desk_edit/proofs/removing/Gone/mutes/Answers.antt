use Rattle.desk_edit.proofs.Words.{sym, ◌∙◌}
use Rattle.desk_edit.proofs.removing.Gone.mutes.Goals as goal
use Rattle.desk_edit.proofs.Lists.{nothing}
use Rattle.desk_edit.proofs.GoneLemmas.{no_mutes}

pub returns-then-is_empty : goal.returns-then-is_empty
returns-then-is_empty g c =
    let x = c.args.self.now in
    let none =
    sym x.sources_go ∙ nothing x.sources.items _ (sym x.sources.ok.0) (sym c.is_empty.ensures ∙ c.if-is_empty.true) in
    c.new.ensures.items ∙ sym (no_mutes x.going.rows.now x.going.key x.going.good x.low none)
