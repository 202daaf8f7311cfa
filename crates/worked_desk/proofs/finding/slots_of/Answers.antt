use Rattle.std.proofs.Common.{◌≡◌, ℕ, filter, nat_eq, ◌∙◌}
use Rattle.desk_rows.specs.Desk.{Desk}
use Rattle.desk_rows.specs.Naming.{slots_naming}
use Rattle.worked_desk.specs.TwoRooms.{two_rooms}
use Rattle.worked_desk.proofs.finding.slots_of.Goals as goal

at : (d : Desk) (member number index : ℕ) → d ≡ two_rooms → member ≡ number
    → filter (λ s. nat_eq s.index index) (slots_naming d member)
    ≡ filter (λ s. nat_eq s.index index) (slots_naming two_rooms number)
at d member number index is same = (λ i. filter (λ s. nat_eq s.index index) (slots_naming (is i) (same i)))

pub returns-clause-one : goal.returns-clause-one
returns-clause-one c e = c.slots_of.ensures.exactly 0 ∙ at c.args.rows.now c.args.member 12 0 c.requires e

pub returns-clause-no_second : goal.returns-clause-no_second
returns-clause-no_second c e = c.slots_of.ensures.exactly 1 ∙ at c.args.rows.now c.args.member 12 1 c.requires e

pub returns-clause-none : goal.returns-clause-none
returns-clause-none c e = c.slots_of.ensures.exactly 0 ∙ at c.args.rows.now c.args.member 10 0 c.requires e
