use Rattle.std.specs.Prelude.{◌≢◌, ◌∷◌, if◌then◌else◌}
use Rattle.std.proofs.Common.{◌≡◌, [], None, Some, reverse}
use Rattle.std.proofs.lemmas.List.{nil_from_length}
use Rattle.std.proofs.lemmas.Result.{on_ok_weaker, IfErr-weaker}
use Rattle.desk_edit.specs.declared.refusal.Refusal.TheVariants.{OutOfMemory}
use Rattle.desk_edit.specs.InForce.{from_newest}
use Rattle.desk_edit.specs.Reverts.{conflict}
use Rattle.desk_calls.proofs.RevertLemmas.{way_both, carried_stop, none_carried, none_in_the_way}
use Rattle.desk_calls.proofs.carrying.+carry_out_in_force.Goals as goal

pub returns-in_default-clause-done : goal.returns-in_default-clause-done
returns-in_default-clause-done g t c =
    none_carried c.args.rows.now c.args.struck.now.items c.args.entries.now
    (nil_from_length c.args.entries.now c.in_default.ensures.cases)

pub returns-in_default-clause-free : goal.returns-in_default-clause-free
returns-in_default-clause-free g t c =
    none_in_the_way c.args.rows.now c.args.struck.now.items c.args.entries.now
    (nil_from_length c.args.entries.now c.in_default.ensures.cases)

pub returns-in-Ok-carry_out_in_force-clause-free : goal.returns-in-Ok-carry_out_in_force-clause-free
returns-in-Ok-carry_out_in_force-clause-free g t c =
    on_ok_weaker c.carry_out_unless.result
    (λ way.
    way_both c.args.rows.now c.carry_out_in_force.new.rows c.args.struck.now.items c.pass.new.struck.items
    c.args.entries.now c.in-Some.earlier.now c.in-Some.entry.now c.in-Ok.is_out None c.in-Some.ensures.cases.0
    c.in-Ok.ensures.out c.in-Ok.ensures.next c.in-Ok-carry_out_in_force.ensures.done
    c.in-Ok-carry_out_in_force.ensures.free way)
    c.carry_out_unless.ensures.free

pub returns-in-Ok-carry_out_in_force-clause-first : goal.returns-in-Ok-carry_out_in_force-clause-first
returns-in-Ok-carry_out_in_force-clause-first g t c =
    IfErr-weaker c.carry_out_unless.result
    (λ why. why ≢ OutOfMemory
    → (if c.in-Ok.is_out then None else conflict c.carry_out_in_force.new.rows (c.in-Some.entry.now ∷ [])) ≡ Some why)
    (λ why. why ≢ OutOfMemory
    → conflict c.args.rows.now (reverse (from_newest c.args.struck.now.items (reverse c.args.entries.now))) ≡ Some why)
    (λ why way other.
    way_both c.args.rows.now c.carry_out_in_force.new.rows c.args.struck.now.items c.pass.new.struck.items
    c.args.entries.now c.in-Some.earlier.now c.in-Some.entry.now c.in-Ok.is_out (Some why) c.in-Some.ensures.cases.0
    c.in-Ok.ensures.out c.in-Ok.ensures.next c.in-Ok-carry_out_in_force.ensures.done
    c.in-Ok-carry_out_in_force.ensures.free (way other))
    c.carry_out_unless.ensures.first

pub returns-in-Err-clause-first : goal.returns-in-Err-clause-first
returns-in-Err-clause-first g t c = λ other.
    carried_stop c.args.rows.now c.args.struck.now.items c.pass.new.struck.items c.args.entries.now
    c.in-Some.earlier.now c.in-Some.entry.now c.in-Err.why c.in-Some.ensures.cases.0 c.in-Ok.ensures.next
    (c.in-Err.ensures.first other)
