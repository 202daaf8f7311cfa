use Rattle.std.proofs.Common.{arith}
use Rattle.desk_calls.proofs.FollowLaws.{many_done}
use Rattle.desk_calls.proofs.RevertLemmas.{kept_few}
use Rattle.desk_calls.proofs.Reverted.{as_if_rows, as_if_way}
use Rattle.std.specs.Prelude.{None, Some}
use Rattle.desk_calls.proofs.desk.Desk.rows_as_if.Goals as goal

pub rows_after-requires : goal.rows_after-requires
rows_after-requires g c =
    let d = c.args.self.now in
    omega (
      arith,
      c.requires.base,
      kept_few c.args.number d.history.done,
      many_done d d.history c.calls-calls.ensures.called,
    )

pub returns-in-Ok-carry_out_in_force-clause-rows : goal.returns-in-Ok-carry_out_in_force-clause-rows
returns-in-Ok-carry_out_in_force-clause-rows g c =
    as_if_rows c.args.self.now c.args.number c.args.base c.in-Ok.rows c.carry_out_in_force.new.rows
    c.in-Ok-one_number.struck.items c.args.past.now c.calls-calls.ensures.called c.requires.base c.requires.past
    c.in-Ok.ensures c.in-Ok-one_number.ensures c.in-Ok-carry_out_in_force.ensures.done

pub returns-in-Ok-carry_out_in_force-clause-free : goal.returns-in-Ok-carry_out_in_force-clause-free
returns-in-Ok-carry_out_in_force-clause-free g c =
    as_if_way c.args.self.now c.args.number c.args.base c.in-Ok.rows c.in-Ok-one_number.struck.items c.args.past.now
    None c.calls-calls.ensures.called c.requires.base c.requires.past c.in-Ok.ensures c.in-Ok-one_number.ensures
    c.in-Ok-carry_out_in_force.ensures.free

pub returns-in-Err-clause-first : goal.returns-in-Err-clause-first
returns-in-Err-clause-first g c =
    λ other.
    as_if_way c.args.self.now c.args.number c.args.base c.in-Ok.rows c.in-Ok-one_number.struck.items c.args.past.now
    (Some c.in-Err.why) c.calls-calls.ensures.called c.requires.base c.requires.past c.in-Ok.ensures
    c.in-Ok-one_number.ensures (c.in-Err.ensures.first other)
