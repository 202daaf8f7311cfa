use Rattle.desk_rows.specs.laws.Words.{rules, answers_always, searchable_from_sorted, ip_and_port}
use Rattle.desk_rows.proofs.AddressLemmas.{address_cmp_total, here, nowhere}
use Rattle.desk_rows.proofs.tables.addressing.find_at.Goals as goal

pub returns-in-Ok-clause-at : goal.returns-in-Ok-clause-at
returns-in-Ok-clause-at c =
    here c.args.address.now c.args.table.now c.in-Ok.place
    (c.in-Ok.ensures.position ip_and_port (answers_always _ _ _ (λ f a r k called. search rules))) _

pub returns-in-Err-clause-none : goal.returns-in-Err-clause-none
returns-in-Err-clause-none c =
    let a = c.args.address.now in
    let parts = c.in-Err.ensures.position ip_and_port (answers_always _ _ _ (λ f a r k called. search rules)) in
    nowhere a c.args.table.now c.in-Err.field-0
    (parts (searchable_from_sorted address_cmp_total ip_and_port c.args.table.now (a.ip, a.port) c.requires))
