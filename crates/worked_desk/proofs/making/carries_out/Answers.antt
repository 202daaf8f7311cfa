use Rattle.std.proofs.Common.{refl}
use Rattle.std.proofs.lemmas.Result.{on_ok_weaker}
use Rattle.desk_edit.specs.Commands.{desk_after}
use Rattle.worked_desk.proofs.Computed.{answers}
use Rattle.worked_desk.specs.TwoRooms.{two_rooms}
use Rattle.worked_desk.specs.DeskCases.{carrying_out}
use Rattle.worked_desk.proofs.making.carries_out.Goals as goal

pub returns : goal.returns
unfolding desk_after
returns c =
    on_ok_weaker c.carry_out.result
    (λ is. answers desk_after two_rooms carrying_out refl c.requires is)
    c.carry_out.ensures
