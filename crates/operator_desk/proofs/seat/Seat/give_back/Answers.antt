use Rattle.std.proofs.Common.{◌≡◌, ◌++◌, length, drop, vec_len, ap, subst, ◌∙◌, arith, take-append-drop}
use mathlib.Core.List.{IsPrefix}
use Rattle.operator_desk.specs.Seats.{SeatOf}
use Rattle.operator_desk.specs.inner.Tokens.{shown}
use Rattle.operator_desk.proofs.TokenLemmas.{length-shown}
use Rattle.operator_desk.proofs.seat.Seat.give_back.Goals as goal

pub agree-requires-clause-few : goal.agree-requires-clause-few
agree-requires-clause-few g c =
    let seen = c.self.inside.seen.items in
    let is : length (shown seen) ≡ length c.args.self.seen = ap (λ (s : SeatOf). length s.seen) c.self.view_is in
    omega (arith, c.requires.few, is, length-shown seen)

pub returns-clause-begins : goal.returns-clause-begins
returns-clause-begins g c =
    let log = shown c.args.entries.now.items in
    let n = vec_len c.self.inside.seen in
    let was = ap (λ (s : SeatOf). s.seen) c.self.view_is in
    subst (λ xs. IsPrefix xs log) was (drop n log, ap (λ xs. xs ++ drop n log) c.agree.ensures ∙ take-append-drop n log)
