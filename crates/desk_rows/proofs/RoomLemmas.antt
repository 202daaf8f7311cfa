-- The members of a room, in the table of members by room.
use Rattle.std.specs.Prelude.{◌≡◌, ◌&&◌}
use Rattle.desk_rows.specs.laws.Words.{ℕ, Bool, true, List, sym, arith, nat_eq, filter, and_parts, MemberRow as Member}
use Rattle.desk_rows.specs.laws.Words.{Desk, good, members_in, IsByRoom}
use Rattle.desk_rows.specs.declared.row.Row.TheVariants as rows
use Rattle.desk_rows.specs.laws.Equal.{row_itself}
use Rattle.desk_rows.specs.laws.ListLaws.{count_by-filter, more_pass, count_all, same_filtered, same_short}
use Rattle.desk_rows.proofs.AddressLemmas.{is, its_member}
use Rattle.desk_rows.proofs.Indexed.{once_each}

abbrev its : ℕ → Member → Bool
its n m = nat_eq m.member n

abbrev there : ℕ → Member → Bool
there room m = nat_eq m.room room

-- of any number, the room's part of a table has the member that the desk has in the room
pub members_in_table : (d : Desk) (room : ℕ) (table : List Member) → good d ≡ true → IsByRoom d.members table → (n : ℕ)
    → filter (λ m. nat_eq m.member n) (filter (λ m. nat_eq m.room room) table)
    ≡ filter (λ m. nat_eq m.member n) (members_in d room)
unfolding is
members_in_table d room table g h n =
    let all = count_by-filter (λ m. true) (its n) (members_in d room) in
    let both = count_by-filter (λ m. its n m && true) (there room) d.members in
    let fewer =
    more_pass (λ m. there room m && (its n m && true)) (its n)
    (λ m e. (and_parts (its n m) true (and_parts (there room m) (its n m && true) e).1).0) d.members in
    same_short is (λ m. row_itself (rows.Member m)) (λ x y e. sym (its_member y x e))
    (filter (its n) (filter (there room) table)) (filter (its n) (members_in d room))
    (omega (arith, count_all (filter (its n) (members_in d room)), all, both, fewer, once_each d g n))
    (same_filtered (its n) (filter (there room) table) (members_in d room)
    (same_filtered (there room) table d.members h.same))
