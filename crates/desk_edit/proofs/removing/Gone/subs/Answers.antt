use Rattle.desk_edit.proofs.Words.{sym, ◌∙◌}
use Rattle.desk_edit.proofs.removing.Gone.subs.Goals as goal
use Rattle.desk_edit.proofs.Lists.{nothing}
use Rattle.desk_edit.proofs.GoneLemmas.{no_subs}

pub returns-then-is_empty-2 : goal.returns-then-is_empty-2
returns-then-is_empty-2 g c =
    let x = c.args.self.now in
    let none =
    sym x.sources_go ∙ nothing x.sources.items _ (sym x.sources.ok.0) (sym c.is_empty.ensures ∙ c.if-is_empty.true) in
    let nor =
    sym x.slots_go
    ∙ nothing x.slots.items _ (sym x.slots.ok.0) (sym c.is_empty-then-is_empty.ensures ∙ c.if-is_empty-2.true) in
    c.new.ensures.items ∙ sym (no_subs x.going.rows.now x.going.key x.going.good x.low none nor)
