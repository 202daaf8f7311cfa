-- On a good desk no two members have one address.
use Rattle.std.specs.Prelude.{◌≡◌, ◌≤◌, ◌∷◌, ◌+◌}
use Rattle.desk_rows.specs.laws.Words.{true, List, [], ap, ◌∙◌, arith, map, Address, same_address, or_left, count_by}
use Rattle.desk_rows.specs.laws.Words.{MemberRow, Member, Desk, rows_of, good, makes, same_claim}
use Rattle.desk_rows.specs.declared.claim.Claim.TheVariants as claims
use Rattle.desk_rows.specs.laws.ClaimLaws.{claimed_once}
use Rattle.desk_rows.specs.laws.Equal.{same_address_is, claim_itself}
use Rattle.desk_rows.specs.laws.Laws.{good_parts}
use Rattle.desk_rows.specs.laws.ListLaws.{count_next, count_by-append}

-- a member at the address claims it
its_address : (a : Address) (m : MemberRow) → same_address m.address a ≡ true
    → makes (claims.Address a) (Member m) ≡ true
its_address a m h =
    or_left _ _ (ap (λ b. same_claim (claims.Address a) (claims.Address b)) (same_address_is m.address a h)
    ∙ claim_itself (claims.Address a))

-- so an address has no more members than claims
members_claim : (a : Address) (ms : List MemberRow)
    → count_by (λ m. same_address m.address a) ms ≤ count_by (makes (claims.Address a)) (map Member ms)
members_claim a [] = omega arith
members_claim a (m ∷ ms) =
    grind (
      arith,
      its_address a m,
      members_claim a ms,
      count_next (λ m. same_address m.address a) m ms,
      count_next (makes (claims.Address a)) (Member m) (map Member ms),
    )

pub one_at_address : (d : Desk) (a : Address) → good d ≡ true → count_by (λ m. same_address m.address a) d.members ≤ 1
one_at_address d a h =
    let claim = makes (claims.Address a) in
    let split : count_by claim (rows_of d) ≡ count_by claim (map Member d.members) + count_by claim d.others =
    count_by-append claim (map Member d.members) d.others in
    omega (arith, claimed_once d (claims.Address a) (good_parts d h).alone, split, members_claim a d.members)
