use Rattle.std.proofs.Common.{length}
use Rattle.desk_calls.proofs.Planned.{few_commands}
use Rattle.desk_calls.proofs.desk.Desk.judge_group.Goals as goal

pub of_group-requires : goal.of_group-requires
of_group-requires g c = few_commands (length c.args.commands.now) _ c.in_ok-edits.ensures.early
