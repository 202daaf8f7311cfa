use Rattle.desk_rows.specs.laws.Words.{List, ap, sym, subst, ◌∙◌, slice_get, Row, precedes, Parts, is_found_as}
use Rattle.desk_rows.proofs.SlidingLemmas.{take_out, none_out}
use Rattle.desk_rows.proofs.tables.sliding.take_one.Goals as goal

pub returns-then-stands-clause-items : goal.returns-then-stands-clause-items
returns-then-stands-clause-items g c =
    let row = c.args.row.now in
    let i = c.place_of-place.result in
    let parts =
    subst (λ (xs : List Row). Parts (λ x. precedes x row) xs i) c.deref.ensures.value c.place_of-place.ensures.parts in
    let here =
    sym (c.stands.ensures ∙ ap (λ xs. is_found_as row (slice_get xs i)) c.deref-2.ensures.value) ∙ c.if-stands.true in
    c.remove.ensures.items ∙ sym (take_out row c.args.rows.now.items i c.requires parts here)

pub returns-else-stands-clause-items : goal.returns-else-stands-clause-items
returns-else-stands-clause-items g c =
    let row = c.args.row.now in
    let i = c.place_of-place.result in
    let parts =
    subst (λ (xs : List Row). Parts (λ x. precedes x row) xs i) c.deref.ensures.value c.place_of-place.ensures.parts in
    let none =
    sym (c.stands.ensures ∙ ap (λ xs. is_found_as row (slice_get xs i)) c.deref-2.ensures.value) ∙ c.if-stands.false in
    sym (none_out row c.args.rows.now.items i c.requires parts none)
