use Rattle.std.specs.Prelude.{◌++◌}
use Rattle.desk_rows.specs.laws.Words.{map, sym, ap, ◌∙◌, find, Member, has_key}
use Rattle.desk_rows.specs.declared.key.Key.TheVariants.{Member as Member_key}
use Rattle.desk_rows.proofs.KindLemmas.{found_first, found_later, skipped}
use Rattle.desk_rows.proofs.tables.searching.row_with.Goals as goal

pub returns-in-Some : goal.returns-in-Some
returns-in-Some c =
    let ms = map Member c.args.members.now in
    let key = Member_key c.in-Member.number in
    sym (ap (λ k. find (has_key k) (ms ++ c.args.others.now)) c.in-Member.is
    ∙ found_first (has_key key) ms c.args.others.now c.in-Some.row (sym c.member_with.ensures ∙ c.in-Some.is))

pub returns-in-None : goal.returns-in-None
returns-in-None c =
    let ms = map Member c.args.members.now in
    let key = Member_key c.in-Member.number in
    c.find_row.ensures
    ∙ sym (ap (λ k. find (has_key k) (ms ++ c.args.others.now)) c.in-Member.is
    ∙ found_later (has_key key) ms c.args.others.now (sym c.member_with.ensures ∙ c.in-None.is))

pub returns-in_default : goal.returns-in_default
returns-in_default c =
    c.find_row-in_default.ensures
    ∙ sym (skipped c.args.key c.in_default.not-Member c.args.members.now c.args.others.now)
