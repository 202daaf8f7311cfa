use Rattle.std.proofs.Common.{◌≡◌, ℕ, filter, nat_eq, ◌∙◌}
use Rattle.desk_rows.specs.declared.row.Member.{Member}
use Rattle.desk_rows.specs.Desk.{Desk}
use Rattle.desk_rows.specs.Naming.{members_in}
use Rattle.worked_desk.specs.TwoRooms.{two_rooms}
use Rattle.worked_desk.proofs.finding.members_of.Goals as goal

at : (d : Desk) (room number member : ℕ) → d ≡ two_rooms → room ≡ number
    → filter (λ (m : Member). nat_eq m.member member) (members_in d room)
    ≡ filter (λ (m : Member). nat_eq m.member member) (members_in two_rooms number)
at d room number member is same = (λ i. filter (λ (m : Member). nat_eq m.member member) (members_in (is i) (same i)))

pub returns-clause-one : goal.returns-clause-one
returns-clause-one c e = c.members_of.ensures 11 ∙ at c.args.rows.now c.args.room 1 11 c.requires e

pub returns-clause-elsewhere : goal.returns-clause-elsewhere
returns-clause-elsewhere c e = c.members_of.ensures 12 ∙ at c.args.rows.now c.args.room 1 12 c.requires e

pub returns-clause-none : goal.returns-clause-none
returns-clause-none c e = c.members_of.ensures 10 ∙ at c.args.rows.now c.args.room 3 10 c.requires e
