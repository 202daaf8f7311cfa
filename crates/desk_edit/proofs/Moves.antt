-- The desk with a member in another room has the same rows, but for that one.
use Rattle.std.specs.Prelude.{◌≡◌, ◌+◌, ◌∷◌, ◌++◌}
use Rattle.desk_edit.proofs.Words.{ℕ, Bool, true, not, cond, List, [], map, count_by, find, Option, Some, refl, ap, ◌∙◌}
use Rattle.desk_edit.proofs.Words.{arith, list_all, fold-map, Row, MemberRow, Key, has_key, same_row, is_of, is_in}
use Rattle.desk_edit.proofs.Words.{Desk, rows_of, row_at, IsKeyed, row_itself, any_counts, count_some, into_room}
use Rattle.desk_edit.proofs.Words.{with_member_in, row_into_room}
use Rattle.desk_rows.specs.declared.row.Row.TheVariants as rows
use Rattle.desk_rows.specs.declared.key.Kind.TheVariants as kinds
use Rattle.std.specs.Option.{option_map}

-- a row, the member of this number in this room
abbrev pub moved_row : ℕ → ℕ → Row → Row
moved_row n room (rows.Member m) = rows.Member (into_room n room m)
moved_row n room r = r

found_map : (p : Row → Bool) (f : Row → Row) → ((r : Row) → p (f r) ≡ p r) → (rs : List Row)
    → find p (map f rs) ≡ option_map f (find p rs)
found_map p f same [] = refl
found_map p f same (r ∷ rs) = let rest = found_map p f same rs in let here = same r in grind (arith, rest, here)

module _ (n room : ℕ) where
  -- what does not look at a member's room says the same
  pub into_keeps : {X : Type 0} (f : MemberRow → X) → ((m : MemberRow) → f (record m { room = room }) ≡ f m)
      → (m : MemberRow) → f (into_room n room m) ≡ f m
  into_keeps f same m = let here = same m in grind (arith, here)

  pub moved_keeps : (p : Row → Bool)
      → ((m : MemberRow) → p (rows.Member (record m { room = room })) ≡ p (rows.Member m)) → (r : Row)
      → p (moved_row n room r) ≡ p r
  moved_keeps p same (rows.Member m) = into_keeps (λ x. p (rows.Member x)) same m
  moved_keeps p same r = refl

  pub moved_in : (rs : List Row) (r : Row) → is_in rs r ≡ true
      → is_in (map (moved_row n room) rs) (moved_row n room r) ≡ true
  moved_in rs r one =
      let same : Row → Bool = same_row (moved_row n room r) in
      let some = any_counts (λ x. same (moved_row n room x)) rs r one (row_itself (moved_row n room r)) in
      count_some same (map (moved_row n room) rs)
      (omega (arith, some, fold-map (λ a x. a + cond (same x) 1 0) (moved_row n room) 0 rs))

  pub rows_moved : (d : Desk) → list_all (λ r. not (is_of kinds.Member r)) d.others ≡ true
      → rows_of (with_member_in d n room) ≡ map (moved_row n room) (rows_of d)
  rows_moved d plain = of_lists d.members where
    others : (os : List Row) → list_all (λ r. not (is_of kinds.Member r)) os ≡ true → os ≡ map (moved_row n room) os
    others [] h = refl
    others (rows.Member r ∷ os) h = cc
    others (r ∷ os) h = ap (λ rs. r ∷ rs) (others os h)

    of_lists : (ms : List MemberRow)
        → map rows.Member (map (into_room n room) ms) ++ d.others
        ≡ map (moved_row n room) (map rows.Member ms ++ d.others)
    of_lists [] = others d.others plain
    of_lists (m ∷ ms) = ap (λ rs. rows.Member (into_room n room m) ∷ rs) (of_lists ms)

  pub found_moved : (d : Desk) → IsKeyed d → (key : Key)
      → row_at (with_member_in d n room) key ≡ row_into_room n room (row_at d key)
  found_moved d keyed key =
      ap (find (has_key key)) (rows_moved d keyed.plain)
      ∙ found_map (has_key key) (moved_row n room) (moved_keeps (has_key key) (λ m. refl)) (rows_of d)
      ∙ into_is (row_at d key) where
        into_is : (o : Option Row) → option_map (moved_row n room) o ≡ row_into_room n room o
        into_is (Some (rows.Member m)) = refl
        into_is o = refl

  pub count_moved : (d : Desk) → list_all (λ r. not (is_of kinds.Member r)) d.others ≡ true → (p : Row → Bool)
      → ((r : Row) → p (moved_row n room r) ≡ p r)
      → count_by p (rows_of (with_member_in d n room)) ≡ count_by p (rows_of d)
  count_moved d plain p same =
      ap (count_by p) (rows_moved d plain)
      ∙ fold-map (λ a r. a + cond (p r) 1 0) (moved_row n room) 0 (rows_of d)
      ∙ (λ i. count_by (λ r. same r i) (rows_of d))

  pub keyed_moved : (d : Desk) → IsKeyed d → IsKeyed (with_member_in d n room)
  keyed_moved d keyed = record {
    once = λ key.
        (let few = keyed.once key in
        let same = count_moved d keyed.plain (has_key key) (moved_keeps (has_key key) (λ m. refl)) in
        omega (arith, few, same));
    plain = keyed.plain;
  }
