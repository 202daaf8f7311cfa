use Rattle.frame_gate.specs.Runs.{joins, parted}
use Rattle.std.specs.Option.{option_copied}
use Rattle.frame_gate.specs.inner.Cells.{held}
use Rattle.std.proofs.lemmas.Result.{IfOk-weaker}
use Rattle.frame_gate.proofs.Wholes.{goes_on-may_end, joined-may_end, parted-goes_on}
use Rattle.frame_gate.proofs.Divisions.{follows_stands}
use Rattle.frame_gate.proofs.walk.follow.Goals as goal

pub returns-clause-stands : goal.returns-clause-stands
returns-clause-stands g c =
    let p = c.args.packet.now in
    IfOk-weaker c.end.result _ _ (λ w s cut given earlier d h goes_on found.
    s cut given earlier (joins (parted d p) p)
    (follows_stands (held c.args.cells.now (option_copied c.args.newcomer)) cut given earlier d c.args.walk
    c.in_ok-parted.parted c.join-joined.result c.part.new.frames.items p
    (c.in_ok-parted.ensures.stands cut given earlier d h (goes_on-may_end d.unclosed goes_on))
    c.in_ok-parted.ensures.after found c.join-joined.ensures)
    (joined-may_end (parted d p).unclosed p (parted-goes_on d p goes_on))) c.end.ensures.stands
