use Rattle.std.proofs.Common.{◌≡◌, ◌++◌, drop, vec_len, ap, subst, ◌∙◌, take-append-drop}
use mathlib.Core.List.{IsPrefix}
use Rattle.operator_desk.specs.PastCalls.{PastOf}
use Rattle.operator_desk.specs.Seats.{SeatOf}
use Rattle.operator_desk.specs.inner.Tokens.{shown}
use Rattle.operator_desk.proofs.past.Past.goes_on_from.Goals as goal

pub returns-clause-begins : goal.returns-clause-begins
returns-clause-begins g c =
    let all = shown c.self.inside.entries.items in
    let seen = shown c.seat.inside.seen.items in
    let from = vec_len c.seat.inside.seen in
    let log : all ≡ c.args.self.now.log = ap (λ (p : PastOf). p.log) c.self.view_is in
    let was : seen ≡ c.args.seat.now.seen = ap (λ (s : SeatOf). s.seen) c.seat.view_is in
    let front : seen ++ drop from all ≡ all =
    ap (λ xs. xs ++ drop from all) c.agree.ensures ∙ take-append-drop from all in
    subst (λ ys. IsPrefix ys c.args.self.now.log) was (subst (λ xs. IsPrefix seen xs) log (drop from all, front))
