use Rattle.desk_rows.specs.laws.Words.{◌≡◌, sym, ap, subst, ◌∙◌, length, arith, put_at, take_at}
use Rattle.desk_rows.specs.laws.PlaceLaws.{length-put_at}
use Rattle.desk_rows.proofs.Indexed.{Once}
use Rattle.desk_rows.proofs.tables.moving.exchange_members.Goals as goal

pub index_members-requires-clause-numbers : goal.index_members-requires-clause-numbers
index_members-requires-clause-numbers g c =
    let lists : put_at c.put_members-put.result.now (take_at c.taken_members-taken.result.now c.args.members.now.items)
    ≡ put_at c.args.edit.now.put.members (take_at c.args.edit.now.taken.members c.args.members.now.items) =
    λ i. put_at (c.put_members-put.ensures i) (take_at (c.taken_members-taken.ensures i) c.args.members.now.items) in
    subst Once
    (sym (c.deref.ensures.value
    ∙ c.put_members.ensures.items
    ∙ ap (put_at c.put_members-put.result.now) c.take_members.ensures.items
    ∙ lists))
    c.requires.numbers

pub index_members-requires-clause-capacity : goal.index_members-requires-clause-capacity
index_members-requires-clause-capacity g c =
    let lists : put_at c.put_members-put.result.now (take_at c.taken_members-taken.result.now c.args.members.now.items)
    ≡ put_at c.args.edit.now.put.members (take_at c.args.edit.now.taken.members c.args.members.now.items) =
    λ i. put_at (c.put_members-put.ensures i) (take_at (c.taken_members-taken.ensures i) c.args.members.now.items) in
    let long =
    ap length (c.deref.ensures.value
    ∙ c.put_members.ensures.items
    ∙ ap (put_at c.put_members-put.result.now) c.take_members.ensures.items
    ∙ lists) in
    let after = length-put_at c.args.edit.now.put.members _ c.requires.put in
    omega (arith, long, after, c.requires.few, c.requires.capacity.1)

pub list_by_address-requires : goal.list_by_address-requires
list_by_address-requires g c =
    let lists : put_at c.put_members-put.result.now (take_at c.taken_members-taken.result.now c.args.members.now.items)
    ≡ put_at c.args.edit.now.put.members (take_at c.args.edit.now.taken.members c.args.members.now.items) =
    λ i. put_at (c.put_members-put.ensures i) (take_at (c.taken_members-taken.ensures i) c.args.members.now.items) in
    let long =
    ap length (c.deref-2.ensures.value
    ∙ c.put_members.ensures.items
    ∙ ap (put_at c.put_members-put.result.now) c.take_members.ensures.items
    ∙ lists) in
    let after = length-put_at c.args.edit.now.put.members _ c.requires.put in
    omega (arith, long, after, c.requires.few, c.requires.capacity.2)

pub list_by_room-requires : goal.list_by_room-requires
list_by_room-requires g c =
    let lists : put_at c.put_members-put.result.now (take_at c.taken_members-taken.result.now c.args.members.now.items)
    ≡ put_at c.args.edit.now.put.members (take_at c.args.edit.now.taken.members c.args.members.now.items) =
    λ i. put_at (c.put_members-put.ensures i) (take_at (c.taken_members-taken.ensures i) c.args.members.now.items) in
    let long =
    ap length (c.deref-3.ensures.value
    ∙ c.put_members.ensures.items
    ∙ ap (put_at c.put_members-put.result.now) c.take_members.ensures.items
    ∙ lists) in
    let after = length-put_at c.args.edit.now.put.members _ c.requires.put in
    omega (arith, long, after, c.requires.few, c.requires.capacity.3)
