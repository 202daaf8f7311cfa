-- A table of members by address, made and asked.
use Rattle.std.specs.Prelude.{◌≡◌, ◌<◌, ◌≤◌, ◌∷◌}
use Rattle.desk_rows.specs.laws.Words.{ℕ, zero, suc, Bool, true, false, List, [], length, get_or, Option, None, Some}
use Rattle.desk_rows.specs.laws.Words.{refl, sym, ap, ◌∙◌, arith, inl, inr, Address, Less, Equal, Greater, same_address}
use Rattle.desk_rows.specs.laws.Words.{cases_lt, IsTotalOrder, on_total, then_total, nat_cmp_total, both_tied}
use Rattle.desk_rows.specs.laws.Words.{unsigned_ties, slice_cmp, nat_list_cmp_total, lists_ties, HoldsAt, list_any}
use Rattle.desk_rows.specs.laws.Words.{IsPartitionPoint, nat_cmp, is_eq, count_by, Contains, IfSome, IfNone}
use Rattle.desk_rows.specs.laws.Words.{MemberRow as Member, Desk, member_at_address, good, same_row, ip_and_port}
use Rattle.desk_rows.specs.laws.Words.{address_cmp, IsByAddress}
use Rattle.desk_rows.specs.declared.row.Row.TheVariants as rows
use Rattle.desk_rows.specs.laws.AddressesOnce.{one_at_address}
use Rattle.desk_rows.specs.laws.Equal.{same_row_is, row_itself}
use Rattle.desk_rows.specs.laws.ListLaws.{count_next, count_yes, same_any, found_nothing, none_there, found_once}

-- ---- the order of addresses

pub address_cmp_total : IsTotalOrder address_cmp
address_cmp_total = then_total (on_total (λ a. a.0) nat_list_cmp_total) (on_total (λ a. a.1) nat_cmp_total)

-- addresses that compare as equal are one
pub tied : (a b : Address) → same_address a b ≡ is_eq (address_cmp (a.ip, a.port) (b.ip, b.port))
tied a b =
    both_tied _ _ (slice_cmp nat_cmp a.ip b.ip) (nat_cmp a.port b.port) (lists_ties nat_cmp unsigned_ties a.ip b.ip)
    (unsigned_ties a.port b.port)

-- ---- what halving finds

-- the element at the place has the address
pub here : (a : Address) (xs : List Member) (i : ℕ)
    → HoldsAt (λ m. address_cmp (ip_and_port m) (a.ip, a.port) ≡ Equal) xs i → (d : Member)
    → same_address (get_or xs i d).address a ≡ true
here a xs i h d = tied (get_or xs i d).address a ∙ ap is_eq (h d)

-- where the table has lower addresses and then higher ones, none is the one
pub nowhere : (a : Address) (xs : List Member) (i : ℕ)
    → IsPartitionPoint (λ m. address_cmp (ip_and_port m) (a.ip, a.port) ≡ Less)
    (λ m. address_cmp (ip_and_port m) (a.ip, a.port) ≡ Greater) xs i
    → list_any (λ m. same_address m.address a) xs ≡ false
nowhere a [] i h = refl
nowhere a (x ∷ xs) i h =
    none_there (λ m. same_address m.address a) (x ∷ xs) x
    (λ k l. tied (get_or (x ∷ xs) k x).address a ∙ elim (cases_lt k i) [
      | inl e ↦ ap is_eq (h.0 k x (omega arith) e)
      | inr e ↦ ap is_eq (h.1 k x e l)
    ])

-- ---- what a table finds

unfoldable pub is : Member → Member → Bool
is m x = same_row (rows.Member x) (rows.Member m)

pub its_member : (x m : Member) → is m x ≡ true → x ≡ m
unfolding is
its_member x m e = inside x m (same_row_is (rows.Member x) (rows.Member m) e) where
  inside : (a b : Member) → rows.Member a ≡ rows.Member b → a ≡ b
  inside a b e = cc

-- what is there is counted
counts : (m : Member) (xs : List Member) (k : ℕ) → k < length xs → get_or xs k m ≡ m → 1 ≤ count_by (is m) xs
unfolding is
counts m [] k l e = absurd (omega (arith, l))
counts m (x ∷ xs) zero l e = omega (arith, count_yes (is m) x xs (ap (is m) e ∙ row_itself (rows.Member m)))
counts m (x ∷ xs) (suc k) l e = omega (arith, counts m xs k (omega (arith, l)) e, count_next (is m) x xs)

-- what is found in the table of a good desk is the member at the address; where nothing is, there is none
pub asked : (d : Desk) (table given : List Member) (a : Address) (o : Option Member) → good d ≡ true
    → IsByAddress d.members table → given ≡ table
    → IfSome o (Contains given) → IfSome o (λ m. same_address m.address a ≡ true)
    → IfNone o (list_any (λ m. same_address m.address a) given ≡ false) → o ≡ member_at_address d a
asked d table given a None g h same there at none =
    sym (found_nothing (λ m. same_address m.address a) d.members (sym
    (same_any (λ m. same_address m.address a) table d.members h.same)
    ∙ ap (list_any (λ m. same_address m.address a)) (sym same)
    ∙ none))
asked d table given a (Some m) g h same there at none =
    let there' : 1 ≤ count_by (is m) d.members =
    omega (arith, counts m given there.0 there.1 there.2, ap (count_by (is m)) same, h.same (is m)) in
    let found =
    found_once (λ x. same_address x.address a) (is m)
    (λ x e. ap (λ z. same_address z.address a) (its_member x m e) ∙ at) d.members there' (one_at_address d a g) in
    sym (found.1 ∙ ap Some (its_member found.0 m found.2))
