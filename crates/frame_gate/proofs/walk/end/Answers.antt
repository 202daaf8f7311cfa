use Rattle.std.proofs.Common.{ap, sym, ◌∙◌}
use Rattle.std.specs.Option.{option_copied}
use Rattle.frame_gate.specs.Packets.{NumberedPacket}
use Rattle.frame_gate.specs.inner.Cells.{held}
use Rattle.std.proofs.lemmas.Result.{IfOk-weaker}
use Rattle.frame_gate.proofs.Divisions.{ends_yes}
use Rattle.frame_gate.proofs.walk.end.Goals as goal

pub returns-then-packet-clause-stands : goal.returns-then-packet-clause-stands
returns-then-packet-clause-stands g c =
    IfOk-weaker c.close.result _ _ (λ w s cut given earlier d h may_end.
    ends_yes (held c.args.cells.now (option_copied c.args.newcomer)) cut given earlier d w c.close.new.frames.items
    c.args.packet.now (sym c.is_empty.ensures ∙ c.if-not-is_empty.true)
    (sym (ap (λ (q : NumberedPacket). q.marker) c.packet.view_is) ∙ c.if-packet.true) (s cut given earlier d h may_end))
    c.close.ensures.stands
