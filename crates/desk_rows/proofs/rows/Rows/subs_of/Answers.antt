use Rattle.desk_rows.specs.laws.Words.{filter, nat_eq, ap, ◌∙◌, subs_naming}
use Rattle.desk_rows.proofs.NamingLemmas.{subs_in_table}
use Rattle.desk_rows.proofs.rows.Rows.subs_of.Goals as goal

pub returns-clause-subs : goal.returns-clause-subs
returns-clause-subs g c =
    let source = c.args.source in
    c.group_of.ensures ∙ ap (filter (λ s. nat_eq s.source source)) c.deref.ensures.value
    ∙ subs_in_table _ source c.self.inside.subs.items c.self.invariant.0 c.self.invariant.6
    ∙ ap (λ d. subs_naming d source) c.self.view_is
