use Rattle.std.specs.Prelude.{◌≤◌}
use Rattle.desk_rows.specs.laws.Words.{List, length, not, sym, subst, arith, common_steps, Row, precedes, Parts}
use Rattle.desk_rows.proofs.SlidingLemmas.{put_in}
use Rattle.desk_rows.proofs.tables.sliding.put_one.Goals as goal

pub returns-clause-items : goal.returns-clause-items
returns-clause-items g c =
    let row = c.args.row.now in
    let i = c.place_before-place.result in
    let parts =
    subst (λ (xs : List Row). Parts (λ x. not (precedes row x)) xs i) c.deref.ensures.value
    c.place_before-place.ensures.parts in
    let within = subst (λ (xs : List Row). i ≤ length xs) c.deref.ensures.value c.place_before-place.ensures.within in
    let is = sym (put_in row c.args.rows.now.items i parts within) in
    grind (arith, common_steps, is)
