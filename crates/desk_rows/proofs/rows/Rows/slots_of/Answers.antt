use Rattle.desk_rows.specs.laws.Words.{filter, nat_eq, ap, sym, subst, ◌∙◌, IsNonDecreasingBy, SlotRow as Slot}
use Rattle.desk_rows.specs.laws.Words.{slots_naming}
use Rattle.desk_rows.proofs.NamingLemmas.{indexes_rise, slots_in_table}
use Rattle.desk_rows.proofs.rows.Rows.slots_of.Goals as goal

pub returns-clause-rising : goal.returns-clause-rising
returns-clause-rising g c =
    let member = c.args.member in
    let these = c.group_of.ensures ∙ ap (filter (λ s. nat_eq s.member member)) c.deref.ensures.value in
    subst (IsNonDecreasingBy (λ (s : Slot). s.index)) (sym these)
    (indexes_rise _ member c.self.inside.slots.items c.self.invariant.8)

pub returns-clause-exactly : goal.returns-clause-exactly
returns-clause-exactly g c index =
    let member = c.args.member in
    let these = c.group_of.ensures ∙ ap (filter (λ s. nat_eq s.member member)) c.deref.ensures.value in
    ap (filter (λ (s : Slot). nat_eq s.index index)) these
    ∙ slots_in_table _ member c.self.inside.slots.items c.self.invariant.0 c.self.invariant.8 index
    ∙ ap (λ d. filter (λ (s : Slot). nat_eq s.index index) (slots_naming d member)) c.self.view_is
