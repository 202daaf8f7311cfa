-- What holds of two seats holds of each.
use Rattle.std.proofs.Common.{◌≡◌, List, [], ◌∷◌, ◌++◌, subst, ap, ◌∙◌, arith}
use Rattle.std.specs.List.{All}
use mathlib.Core.List.{IsPrefix}
use Rattle.operator_desk.specs.Entry.{EntryOf}
use Rattle.operator_desk.specs.Seats.{SeatOf}

both_begin : (one two : SeatOf) (none first both : List SeatOf) (log : List EntryOf) → none ≡ []
    → first ≡ none ++ one ∷ [] → both ≡ first ++ two ∷ [] → All (λ (s : SeatOf). IsPrefix s.seen log) both
    → All (λ (s : SeatOf). IsPrefix s.seen log) (one ∷ two ∷ [])
both_begin one two none first both log is-none is-first is-both all =
    subst (λ (l : List SeatOf). All (λ (s : SeatOf). IsPrefix s.seen log) l)
    (is-both ∙ ap (λ (l : List SeatOf). l ++ two ∷ []) (is-first ∙ ap (λ (l : List SeatOf). l ++ one ∷ []) is-none)) all

pub first_begins : (one two : SeatOf) (none first both : List SeatOf) (log : List EntryOf) → none ≡ []
    → first ≡ none ++ one ∷ [] → both ≡ first ++ two ∷ [] → All (λ (s : SeatOf). IsPrefix s.seen log) both
    → IsPrefix one.seen log
first_begins one two none first both log is-none is-first is-both all =
    both_begin one two none first both log is-none is-first is-both all 0 one (omega arith)

pub second_begins : (one two : SeatOf) (none first both : List SeatOf) (log : List EntryOf) → none ≡ []
    → first ≡ none ++ one ∷ [] → both ≡ first ++ two ∷ [] → All (λ (s : SeatOf). IsPrefix s.seen log) both
    → IsPrefix two.seen log
second_begins one two none first both log is-none is-first is-both all =
    both_begin one two none first both log is-none is-first is-both all 1 two (omega arith)
