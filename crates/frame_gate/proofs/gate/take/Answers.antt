use Rattle.std.proofs.Common.{◌≡◌, ℕ, ◌+◌, ◌%◌, ◌<◌, ◌≤◌, max, List, length, None, Some, set, sym, ap, ◌∙◌, subst}
use Rattle.std.proofs.Common.{arith}
use Rattle.std.specs.Prelude.{unwrap_or}
use Rattle.frame_gate.specs.Packets.{NumberedPacket}
use Rattle.frame_gate.specs.Frame.{WholeFrame}
use Rattle.frame_gate.specs.inner.Cells.{held}
use Rattle.frame_gate.specs.Epochs.{packet_at, greatest, resynced, taking}
use Rattle.frame_gate.specs.inner.Ties.{Tied}
use Rattle.frame_gate.proofs.Takes.{taken_tied}
use Rattle.frame_gate.proofs.Taken.{greatest_below}
use Rattle.frame_gate.proofs.Newcomers.{newcomer, kept}
use Rattle.frame_gate.proofs.Answered.{resynced-taken, top-greatest}
use Rattle.frame_gate.proofs.MissingNumbers.{few_missing}
use Rattle.frame_gate.proofs.gate.take.Goals as goal

pub returns-clause-tied : goal.returns-clause-tied
returns-clause-tied g c = λ given e h is.
    let cells = c.args.cells.now in
    let at = held cells None in
    let p = c.args.packet in
    let n = c.packet.inside.number in
    let same : n ≡ p.number = ap (λ (q : NumberedPacket). q.number) c.packet.view_is in
    let walk = c.args.walk in
    let near = c.in_ok-near.near in
    let far = c.in_ok-far.far in
    let mid = resynced n e n in
    let t : mid.taken ≡ e.taken = resynced-taken n e n in
    let begun : Tied at given e walk c.new-frames.result.items =
    subst (λ (out : List WholeFrame). Tied at given e walk out) (sym c.new-frames.ensures.items) h in
    let lt : n < walk.next + 256 + n = omega arith in
    let there : Tied at given mid near c.resync.new.frames.items = c.in_ok-near.ensures.tied given e n begun lt in
    let none : packet_at mid.taken p.number ≡ None =
    ap (λ (ps : List NumberedPacket). packet_at ps p.number) t
    ∙ sym (h.agrees p.number c.requires.number.0)
    ∙ c.requires.new in
    let low : greatest mid.taken < near.next + 256 =
    greatest_below mid.taken (near.next + 256) (omega arith) there.behind in
    let near_enough = c.in_ok-near.ensures.capacity in
    let most : unwrap_or c.args.greatest 0 ≡ greatest mid.taken =
    ap (λ o. unwrap_or o 0) is ∙ top-greatest e.taken ∙ ap greatest (sym t) in
    let end = c.min-to.result in
    let next = c.in_ok-near.ensures.next in
    let last = held (set cells (p.number % 256) (Some p)) None in
    let above : near.next ≤ p.number = omega (arith, next.2, same) in
    let below : p.number < near.next + 256 = omega (arith, near_enough, same) in
    let to : max (greatest mid.taken) p.number < end =
    omega (arith, most, same, low, below, c.unwrap_or.ensures, c.max-behind.ensures, c.min-to.ensures) in
    subst (λ (m : ℕ). Tied last given (taking (resynced m e m) p) far c.drain.new.frames.items) same
    (taken_tied at (held cells (Some p)) last given mid near far
    c.resync.new.frames.items c.drain.new.frames.items p end
    there above below c.in_ok-far.ensures.next.0 to
    (λ k a. newcomer cells mid.taken p k none (there.agrees k a))
    (λ k a. kept cells mid.taken p near.next k c.requires.cells above below a none (there.agrees k a) there.behind)
    c.in_ok-far.ensures.stands)

pub returns-clause-few : goal.returns-clause-few
returns-clause-few g c =
    let far = c.in_ok-far.far in
    let n = c.packet.inside.number in
    let long = ap length c.in_ok-nacks.ensures in
    let few = few_missing c.args.greatest far.next n in
    let near_enough = c.in_ok-near.ensures.capacity in
    let on = c.in_ok-far.ensures.next.0 in
    omega (arith, long, few, near_enough, on)
