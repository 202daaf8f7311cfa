use Rattle.std.proofs.Common.{sym, ap, ◌∙◌}
use Rattle.std.specs.Option.{option_copied}
use Rattle.std.proofs.lemmas.Result.{IfOk-weaker}
use Rattle.frame_gate.specs.inner.Cells.{held}
use Rattle.frame_gate.specs.inner.Walks.{tells_apart_at}
use Rattle.frame_gate.proofs.Divisions.{parts_yes}
use Rattle.frame_gate.proofs.walk.part.Goals as goal

pub returns-then-tells_apart-clause-stands : goal.returns-then-tells_apart-clause-stands
returns-then-tells_apart-clause-stands g c =
    IfOk-weaker c.close.result _ _ (λ w s cut given earlier d h may_end.
    parts_yes (held c.args.cells.now (option_copied c.args.newcomer)) cut given earlier d c.args.walk w
    c.args.frames.now.items c.close.new.frames.items c.args.packet.now h
    (ap (λ o. tells_apart_at o c.args.packet.now) c.in-Some.is ∙ sym c.tells_apart.ensures ∙ c.if-tells_apart.true)
    (s cut given earlier d h may_end)) c.close.ensures.stands
