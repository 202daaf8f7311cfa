-- The members that go with a row are those of its room, or the one of its number.
use Rattle.std.specs.Prelude.{◌≡◌, ◌+◌, ◌∷◌}
use Rattle.desk_edit.proofs.Words.{ℕ, nat_eq, Bool, true, false, List, [], inl, inr, refl, sym, ap, ◌∙◌, arith}
use Rattle.desk_edit.proofs.Words.{eqb-true, list_any, list_all, or-false, and_parts, cases_Bool, MemberRow, Key, Desk}
use Rattle.desk_edit.proofs.Words.{good, is_named_there, good_parts, two_alls, goes_with, has, placed_from, picks}
use Rattle.desk_edit.proofs.Words.{picked_with}
use Rattle.desk_rows.specs.declared.row.Row.TheVariants as rows
use Rattle.desk_rows.specs.declared.key.Key.TheVariants as keys
use Rattle.desk_edit.proofs.Dependence.{own_only}
use Rattle.desk_edit.proofs.GoingLemmas.{none_goes, same_goes}

-- what a row of a member names is there
member_named : (d : Desk) → good d ≡ true → list_all (λ m. is_named_there d (rows.Member m)) d.members ≡ true
member_named d g =
    (and_parts _ _ (sym (two_alls rows.Member (is_named_there d) d.members d.others) ∙ (good_parts d g).named)).0

goes_is : (d : Desk) (key : Key) (m : MemberRow) → is_named_there d (rows.Member m) ≡ true
    → goes_with d key (rows.Member m) ≡ picks (picked_with key) m
goes_is d (keys.Room room) m there = or-false _ ∙ elim (cases_Bool (nat_eq m.room room)) [
  | inl e ↦
      same_goes d 2 (keys.Room room) (keys.Room m.room) e
      ∙ ap (λ n. has d (keys.Room n)) (sym (eqb-true m.room room e))
      ∙ (and_parts _ _ there).0
      ∙ sym e
  | inr e ↦ none_goes d 2 (keys.Room room) (keys.Room m.room) refl e ∙ sym e
]
goes_is d key m there = own_only 3 d key (rows.Member m) (omega arith)

placed_alike : (n : ℕ) (p q t : MemberRow → Bool) (ms : List MemberRow) → ((m : MemberRow) → t m ≡ true → p m ≡ q m)
    → list_all t ms ≡ true → placed_from n p ms ≡ placed_from n q ms
placed_alike n p q t [] each h = refl
placed_alike n p q t (m ∷ ms) each h =
    let rest = placed_alike (n + 1) p q t ms each in let here = each m in grind (arith, rest, here, h)

pub members_going : (d : Desk) (key : Key) → good d ≡ true
    → placed_from 0 (picks (picked_with key)) d.members ≡ placed_from 0 (λ m. goes_with d key (rows.Member m)) d.members
members_going d key g =
    sym (placed_alike 0 (λ m. goes_with d key (rows.Member m)) (picks (picked_with key))
    (λ m. is_named_there d (rows.Member m)) d.members (goes_is d key) (member_named d g))

-- where none is picked, none goes
pub none_placed : (n : ℕ) (p : MemberRow → Bool) (ms : List MemberRow) → placed_from n p ms ≡ [] → list_any p ms ≡ false
none_placed n p [] h = refl
none_placed n p (m ∷ ms) h = let rest = none_placed (n + 1) p ms in grind (arith, rest, h)
