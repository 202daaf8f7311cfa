use Rattle.std.proofs.Common.{◌≡◌, ◌++◌, take, vec_len, drop, rules, ap, subst, ◌∙◌, take-append-drop}
use mathlib.Core.List.{IsPrefix}
use Rattle.operator_desk.specs.OwnCalls.{numbers}
use Rattle.operator_desk.specs.Seats.{SeatOf}
use Rattle.operator_desk.specs.inner.DeskInner.{InnerOf}
use Rattle.operator_desk.specs.inner.Tokens.{shown}
use Rattle.operator_desk.proofs.desk_inner.DeskInner.show.Goals as goal

pub returns-clause-seen : goal.returns-clause-seen
returns-clause-seen g c = c.catch_up.ensures.shown ∙ ap (λ (h : InnerOf). h.log) c.self.view_is

pub returns-clause-begins : goal.returns-clause-begins
returns-clause-begins g c =
    let all = shown c.self.inside.entries.items in
    let seen = shown c.seat.inside.seen.items in
    let from = vec_len c.seat.inside.seen in
    let log : all ≡ c.args.self.now.log = ap (λ (h : InnerOf). h.log) c.self.view_is in
    let was : seen ≡ c.args.seat.now.seen = ap (λ (s : SeatOf). s.seen) c.seat.view_is in
    let front : seen ++ drop from all ≡ all =
    ap (λ xs. xs ++ drop from all) c.agree.ensures ∙ take-append-drop from all in
    subst (λ ys. IsPrefix ys c.args.self.now.log) was (subst (λ xs. IsPrefix seen xs) log (drop from all, front))

pub returns-clause-own : goal.returns-clause-own
returns-clause-own g c =
    let all = shown c.self.inside.entries.items in
    let seen = shown c.seat.inside.seen.items in
    let op = c.seat.inside.op in
    let from = vec_len c.seat.inside.seen in
    let log : all ≡ c.args.self.now.log = ap (λ (h : InnerOf). h.log) c.self.view_is in
    let was : seen ≡ c.args.seat.now.seen = ap (λ (s : SeatOf). s.seen) c.seat.view_is in
    let who : op ≡ c.args.seat.now.op = ap (λ (s : SeatOf). s.op) c.seat.view_is in
    let begins : seen ≡ take from all = c.agree.ensures in
    let quiet : numbers op all ≡ numbers op seen = search rules in
    let now = c.args.self.now.log in
    subst (λ n. numbers n now ≡ numbers n c.args.seat.now.seen) who
    (subst (λ ys. numbers op now ≡ numbers op ys) was (subst (λ xs. numbers op xs ≡ numbers op seen) log quiet))
