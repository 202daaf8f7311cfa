-- The causes of drops add up.
use Rattle.std.proofs.Common.{◌≡◌, ℕ, ◌+◌, nat_eq, cond, not, List, [], ◌∷◌, count_by, All, refl, arith}
use Rattle.std.proofs.lemmas.List.Sums.{sum_by-cons}
use Rattle.std.proofs.lemmas.List.Elements.{All-head, All-tail}
use Rattle.ingress.specs.declared.outcome.Outcome.{Outcome}
use Rattle.ingress.specs.declared.outcome.Outcome.TheVariants.{TooLong, Neither, BadRtp, BadRtcp, Unknown}
use Rattle.ingress.specs.declared.outcome.Outcome.TheVariants.{BadPayload, Spent, Probation, Accepted, Late}
use Rattle.ingress.specs.declared.outcome.Outcome.TheVariants.{Duplicate, Jump, Restarted, Rtcp}
use Rattle.ingress.specs.declared.outcome_class.Whose.TheVariants.{Source}
use Rattle.ingress.specs.declared.outcome_kind.OutcomeKind.TheVariants as kinds
use Rattle.ingress.specs.Outcomes.{outcome_kind, whose, is_accepted}
use Rattle.bridge_stats.specs.declared.taken.TakenIn.{TakenIn}
use Rattle.bridge_stats.specs.Counts.{so_many, has_kind}
use Rattle.bridge_stats.specs.Kinds.{line_place}
use Rattle.bridge_stats.specs.Sources.{numbers_of}

-- one where the outcome has the place
abbrev at : Outcome → ℕ → ℕ
at outcome place = cond (nat_eq (line_place (outcome_kind outcome)) place) 1 0

-- a packet of a source that is dropped has one cause
one : (outcome : Outcome) → whose outcome ≡ Source
    → cond (not (is_accepted outcome)) 1 0 ≡ at outcome 15 + at outcome 16 + at outcome 17 + at outcome 21
one TooLong h = absurd cc
one Neither h = absurd cc
one (BadRtp fault) h = absurd cc
one (BadRtcp fault) h = absurd cc
one Unknown h = absurd cc
one BadPayload h = refl
one Spent h = refl
one Probation h = refl
one (Accepted ext) h = refl
one (Late ext) h = refl
one (Duplicate ext) h = refl
one Jump h = refl
one (Restarted ext) h = refl
one (Rtcp packets) h = absurd cc

-- how many were dropped
abbrev dropped : List TakenIn → ℕ
dropped all = count_by (λ taken. not (is_accepted taken.outcome)) all

added : (all : List TakenIn) → All (λ taken. whose taken.outcome ≡ Source) all
    → dropped all ≡ count_by (has_kind kinds.BadPayload) all + count_by (has_kind kinds.Spent) all
    + count_by (has_kind kinds.Probation) all + count_by (has_kind kinds.Jump) all
added [] h = refl
added (t ∷ all) h =
    let whole = sum_by-cons (λ (x : TakenIn). cond (not (is_accepted x.outcome)) 1 0) t all in
    let bad = sum_by-cons (λ (x : TakenIn). cond (has_kind kinds.BadPayload x) 1 0) t all in
    let spent = sum_by-cons (λ (x : TakenIn). cond (has_kind kinds.Spent x) 1 0) t all in
    let probation = sum_by-cons (λ (x : TakenIn). cond (has_kind kinds.Probation x) 1 0) t all in
    let jump = sum_by-cons (λ (x : TakenIn). cond (has_kind kinds.Jump x) 1 0) t all in
    let first = one t.outcome (All-head (λ taken. whose taken.outcome ≡ Source) t all h) in
    let rest = added all (All-tail (λ taken. whose taken.outcome ≡ Source) t all h) in
    omega (arith, whole, bad, spent, probation, jump, first, rest)

-- each count ends at 2^64 - 1, and so does their sum
ended : (n a b c d : ℕ) → n ≡ a + b + c + d → so_many n ≡ so_many (so_many a + so_many b + so_many c + so_many d)
ended n a b c d h = omega (arith, h)

pub add_up : (all : List TakenIn) → All (λ taken. whose taken.outcome ≡ Source) all
    → (numbers_of all).dropped ≡ so_many ((numbers_of all).drops.bad_payload + (numbers_of all).drops.spent
    + (numbers_of all).drops.probation + (numbers_of all).drops.jump)
add_up all h =
    ended (dropped all) (count_by (has_kind kinds.BadPayload) all) (count_by (has_kind kinds.Spent) all)
    (count_by (has_kind kinds.Probation) all) (count_by (has_kind kinds.Jump) all) (added all h)
