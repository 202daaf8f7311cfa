use Rattle.std.proofs.Common.{◌⊎◌, inl, inr, refl}
use Rattle.desk_rows.specs.declared.key.Key.TheVariants.{Room}
use Rattle.worked_desk.specs.Rows.{video, sub}
use Rattle.worked_desk.specs.TwoRooms.{two_rooms}
use Rattle.worked_desk.proofs.making.dependents.Goals as goal

second : {A B : Type 0} → ¬ A → A ⊎ B → B
second never (inl a) = absurd (never a)
second never (inr b) = b

pub returns-clause-sub : goal.returns-clause-sub
returns-clause-sub c = second (λ e. cc) (c.dependent_rows_go.ensures.only two_rooms (Room 1) (sub 501 101) refl)

pub returns-clause-other_source : goal.returns-clause-other_source
returns-clause-other_source c = λ depends.
    let goes = c.dependent_rows_go.ensures.all two_rooms (Room 1) (video 103 12) depends in cc
