use Rattle.desk_rows.specs.laws.Words.{List, length, ap, sym, subst, arith, Row, key_of, precedes, Parts}
use Rattle.desk_rows.specs.laws.Equal.{same_key_is}
use Rattle.desk_rows.proofs.SlidingLemmas.{replaced_at}
use Rattle.desk_rows.proofs.tables.sliding.replace_one.Goals as goal

pub index_mut-requires : goal.index_mut-requires
index_mut-requires g c =
    let old = c.args.old.now in
    let new = c.args.new.now in
    let i = c.place_of-place.result in
    let parts =
    subst (λ (xs : List Row). Parts (λ x. precedes x old) xs i) c.deref.ensures.value c.place_of-place.ensures.parts in
    let within =
    (replaced_at old new c.args.rows.now.items i c.requires.order parts c.requires.there
    (same_key_is (key_of old) (key_of new) c.requires.key)).0 in
    let len = ap length c.deref.ensures.value in
    omega (arith, within, len, c.deref.ensures.len)

pub returns-clause-items : goal.returns-clause-items
returns-clause-items g c =
    let old = c.args.old.now in
    let new = c.args.new.now in
    let i = c.place_of-place.result in
    let parts =
    subst (λ (xs : List Row). Parts (λ x. precedes x old) xs i) c.deref.ensures.value c.place_of-place.ensures.parts in
    sym (replaced_at old new c.args.rows.now.items i c.requires.order parts c.requires.there
    (same_key_is (key_of old) (key_of new) c.requires.key)).1
