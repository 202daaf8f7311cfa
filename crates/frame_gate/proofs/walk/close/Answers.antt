use Rattle.std.proofs.Common.{◌≡◌, ◌++◌, [], ◌∷◌, List, None, Some, sym, ap, ◌∙◌, subst}
use Rattle.std.specs.Option.{option_copied}
use Rattle.frame_gate.specs.Frame.{WholeFrame}
use Rattle.frame_gate.specs.Runs.{closes, frame_of}
use Rattle.frame_gate.specs.inner.Cells.{held}
use Rattle.frame_gate.specs.inner.Walks.{Stands, closed_at}
use Rattle.frame_gate.proofs.Divisions.{closes_later, piece_ends, not_true}
use Rattle.frame_gate.proofs.Wholes.{closed_is_frame}
use Rattle.frame_gate.proofs.walk.close.Goals as goal

pub returns-in_ok-push-clause-stands : goal.returns-in_ok-push-clause-stands
returns-in_ok-push-clause-stands g c = λ cut given earlier d h may_end.
    let at = held c.args.cells.now (option_copied c.args.newcomer) in
    let w = c.args.walk in
    let before = c.args.frames.now.items in
    let later = not_true c.args.walk.first c.if-not-walk.true in
    let packets =
    c.in_ok-packets.ensures.items d.unclosed (h.piece later) (piece_ends at cut given earlier d w before h later) in
    let whole =
    closed_is_frame c.args.cells.now (option_copied c.args.newcomer) cut given earlier d w before c.args.ts
    c.in_ok-packets.packets.items h later c.requires.stamp c.requires.few packets c.in_ok-packets.ensures.kinds
    may_end in
    let frame : c.in-Ok.frame ≡ frame_of d.unclosed = c.in-Ok.ensures.kept ∙ whole.1 in
    let e : c.push.new.self.items ≡ before ++ frame_of d.unclosed ∷ [] =
    c.in_ok-push.ensures.items ∙ ap (λ (f : WholeFrame). before ++ f ∷ []) frame in
    subst (λ (out : List WholeFrame). Stands at cut given earlier (closes d) (closed_at w) out) (sym e)
    (closes_later at cut given earlier d w before h later)

pub returns-in_default-clause-stands : goal.returns-in_default-clause-stands
returns-in_default-clause-stands g c = λ cut given earlier d h may_end.
    let at = held c.args.cells.now (option_copied c.args.newcomer) in
    let w = c.args.walk in
    let before = c.args.frames.now.items in
    let later = not_true c.args.walk.first c.if-not-walk.true in
    let packets =
    c.in_ok-packets.ensures.items d.unclosed (h.piece later) (piece_ends at cut given earlier d w before h later) in
    let whole =
    closed_is_frame c.args.cells.now (option_copied c.args.newcomer) cut given earlier d w before c.args.ts
    c.in_ok-packets.packets.items h later c.requires.stamp c.requires.few packets c.in_ok-packets.ensures.kinds
    may_end in
    absurd (let e : None ≡ Some c.in_default.field-0 = sym whole.0 ∙ c.in_default.ensures.fault in cc)
