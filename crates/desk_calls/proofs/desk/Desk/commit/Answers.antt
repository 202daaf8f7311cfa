use Rattle.desk_edit.specs.Asked.{asked_by}
use Rattle.desk_calls.proofs.FollowLaws.{called_on}
use Rattle.desk_calls.proofs.desk.Desk.commit.Goals as goal

pub returns-clause-history : goal.returns-clause-history
returns-clause-history g c h called =
    called_on c.args.self.now c.carry_out.new.self h (asked_by c.args.call.now) called c.carry_out.ensures.version
    c.carry_out.ensures.turns c.carry_out.ensures.does
