use Rattle.std.proofs.Common.{◌+◌, take, drop, get_or, sym, ap, Ok, Err}
use Rattle.std.proofs.lemmas.List.{take_all}
use Rattle.std.specs.List.{flat_map}
use Rattle.desk_edit.specs.declared.command.Command.TheVariants.{AddRoom}
use Rattle.desk_text.specs.inner.Growing.{buffer_of}
use Rattle.desk_text.proofs.GrowLemmas.{grows_none, grows_then, grows_stop, grows_same, grows_err}
use Rattle.desk_text.proofs.RowLemmas.{one_more, others}
use Rattle.desk_text.specs.inner.Pieces.{other_part}
use Rattle.desk_text.proofs.telling.append_others.Goals as goal

pub loop-command-init : goal.loop-command-init
loop-command-init g c = grows_none (buffer_of c.args.out.now)

pub loop-command-preserved : goal.loop-command-preserved
loop-command-preserved g c =
    let xs = c.args.commands.now in
    let k = c.loop-command.command-index in
    let d = AddRoom (record { room = 0; rate = 0 }) in
    let old = buffer_of c.args.out.now in
    let new = buffer_of c.append_other.new.out in
    grows_same old new _ _ (Ok tt) (sym (one_more other_part xs k d c.loop-command-test.true))
    (grows_then old (buffer_of c.loop-command.out) new (flat_map other_part (take k xs)) (other_part (get_or xs k d))
    (Ok tt)
    c.loop-command.invariant c.in_ok-append_other.ensures)

pub returns-in_err-append_other : goal.returns-in_err-append_other
returns-in_err-append_other g c =
    let xs = c.args.commands.now in
    let k = c.loop-command.command-index in
    let d = AddRoom (record { room = 0; rate = 0 }) in
    let e = c.in_err-append_other.field-0.0 in
    let old = buffer_of c.args.out.now in
    let new = buffer_of c.append_other.new.out in
    grows_err old new _ _ e c.from_residual.ensures.0
    (grows_same old new _ _ (Err e) (others other_part xs (k + 1))
    (grows_stop old new (flat_map other_part (take (k + 1) xs)) (flat_map other_part (drop (k + 1) xs)) e
    (grows_same old new _ _ (Err e) (sym (one_more other_part xs k d c.loop-command-test.true))
    (grows_then old (buffer_of c.loop-command.out) new (flat_map other_part (take k xs)) (other_part (get_or xs k d))
    (Err e)
    c.loop-command.invariant c.in_err-append_other.ensures))))

pub returns : goal.returns
returns g c =
    let xs = c.args.commands.now in
    grows_same (buffer_of c.args.out.now) (buffer_of c.loop-command.out) _ _ (Ok tt)
    (ap (flat_map other_part) (take_all c.loop-command.command-index xs c.loop-command-test.false))
    c.loop-command.invariant
