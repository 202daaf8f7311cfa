-- Things in the order of the members that they belong to. No public clause cites this.
use Rattle.std.specs.Prelude.{ℕ, nat_eq, List, filter, map, Option, None, Some}
use Rattle.std.specs.Option.{option_map}
use Rattle.std.specs.List.{flat_map, range_with_len}
use Rattle.desk_rows.specs.declared.row.Member.{Member as MemberRow}
use Rattle.desk_rows.specs.Places.{place_in}
use Rattle.desk_rows.specs.Desk.{Desk}
use Rattle.topology.specs.declared.seating.Seated.{Seated}
use Rattle.topology.specs.Looking.{member_at}

-- a thing at a place, where there are both
abbrev pub seat_at : {X : Type 0} → Option ℕ → Option X → Option (Seated X)
seat_at (Some place) (Some x) = Some (record { place = place; thing = x })
seat_at _ _ = None

-- the member of this number, at its place
abbrev pub seat_of : Desk → ℕ → Option (Seated MemberRow)
seat_of d member = seat_at (place_in d.members member) (member_at d member)

-- what is made of a member and an x, at the member's place
abbrev pub seat_with : {X Y : Type 0} → (MemberRow → X → Y) → X → Seated MemberRow → Seated Y
seat_with make x t = record { place = t.place; thing = make t.thing x }

-- what is made of an x and the member that it belongs to, at the member's place
abbrev pub seat : {X Y : Type 0} → (X → ℕ) → (MemberRow → X → Y) → Desk → X → Option (Seated Y)
seat owner make d x = option_map (seat_with make x) (seat_of d (owner x))

-- what is made of each of these members and the xs that belong to it, in the order of the members
abbrev pub by_members : {X Y : Type 0} → (X → ℕ) → (MemberRow → X → Y) → List MemberRow → List X → List Y
by_members owner make members xs = flat_map (λ m. map (make m) (filter (λ x. nat_eq (owner x) m.member) xs)) members

-- the things of so many places, place by place
abbrev pub by_places : {X : Type 0} → ℕ → List (Seated X) → List X
by_places n ts = map (λ t. t.thing) (flat_map (λ p. filter (λ t. nat_eq t.place p) ts) (range_with_len 0 n))
