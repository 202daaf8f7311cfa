use Rattle.std.specs.Prelude.{◌≡◌}
use Rattle.desk_edit.proofs.Words.{List, filter, IfOk, sym, ap, ◌∙◌, subst, list_any, Row, Key, is_of, goes_with}
use Rattle.desk_edit.proofs.Words.{is_sound}
use Rattle.desk_rows.specs.declared.key.Kind.TheVariants as kinds
use Rattle.desk_edit.proofs.removing.Gone.gains.Goals as goal
use Rattle.desk_edit.proofs.GoneLemmas.{no_gains, own_gains}

pub returns-then-self : goal.returns-then-self
returns-then-self g c =
    let x = c.args.self.now in
    let none =
    ap (list_any is_sound) (sym x.sources_go ∙ sym c.deref.ensures.value)
    ∙ sym c.any_sound.ensures
    ∙ c.if-any_sound.false in
    c.new.ensures.items ∙ sym (no_gains x.going.rows.now x.going.key x.going.good x.low none (x.members c.if-self.true))

pub returns-in-Member : goal.returns-in-Member
returns-in-Member g c =
    let x = c.args.self.now in
    let d = x.going.rows.now in
    let none =
    ap (list_any is_sound) (sym x.sources_go ∙ sym c.deref.ensures.value)
    ∙ sym c.any_sound.ensures
    ∙ c.if-any_sound.false in
    let its =
    ap (λ (k : Key). list_any is_sound (filter (goes_with d k) (filter (is_of kinds.Source) d.others)))
    (sym c.in-Member.is)
    ∙ none in
    let same =
    c.gains_of.ensures.gains
    ∙ own_gains d c.in-Member.member x.going.good its
    ∙ ap (λ (k : Key). filter (goes_with d k) (filter (is_of kinds.Gain) d.others)) (sym c.in-Member.is) in
    subst (λ (xs : List Row). IfOk c.from_slice.result (λ v. v.items ≡ xs)) same c.from_slice.ensures.items
