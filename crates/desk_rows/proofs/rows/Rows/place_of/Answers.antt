use Rattle.desk_rows.specs.laws.Words.{sym, ap, subst, ◌∙◌, IsNonDecreasingBy, option_map, IndexEntry, place_in}
use Rattle.desk_rows.specs.laws.Words.{entry_in}
use Rattle.desk_rows.proofs.rows.Rows.place_of.Goals as goal

pub entry_of-requires : goal.entry_of-requires
entry_of-requires g c =
    subst (IsNonDecreasingBy (λ (e : IndexEntry). e.member)) (sym c.deref.ensures.value) c.self.invariant.1.sorted

pub returns-in-None-clause-place : goal.returns-in-None-clause-place
returns-in-None-clause-place g c =
    ap (option_map (λ (e : IndexEntry). e.place))
    (sym c.in-None.is ∙ c.entry_of.ensures ∙ ap (λ es. entry_in es c.args.member) c.deref.ensures.value)
    ∙ c.self.invariant.1.places c.args.member
    ∙ ap (λ d. place_in d.members c.args.member) c.self.view_is

pub returns-in-Some-clause-place : goal.returns-in-Some-clause-place
returns-in-Some-clause-place g c =
    ap (option_map (λ (e : IndexEntry). e.place))
    (sym c.in-Some.is ∙ c.entry_of.ensures ∙ ap (λ es. entry_in es c.args.member) c.deref.ensures.value)
    ∙ c.self.invariant.1.places c.args.member
    ∙ ap (λ d. place_in d.members c.args.member) c.self.view_is
