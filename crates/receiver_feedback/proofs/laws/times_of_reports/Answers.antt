use Rattle.std.proofs.Common.{◌≡◌, ℕ, ◌+◌, ◌*◌, ◌/◌, ◌%◌, ◌^◌, ap, ◌∙◌, mul_assoc, arith}
use Rattle.std.proofs.Math.Nat.{mul-div_cancel_left}
use Rattle.receiver_feedback.specs.Times.{second, second_in_microseconds, elapsed}
use Rattle.receiver_feedback.proofs.laws.times_of_reports.Goals as goal

whole_seconds : (from n : ℕ) → elapsed from (from + n * second) ≡ second_in_microseconds * n
whole_seconds from n = omega arith

units : (from n rate : ℕ) → elapsed from (from + n * second) * rate / second_in_microseconds ≡ n * rate
units from n rate =
    ap (λ k. k * rate / second_in_microseconds) (whole_seconds from n)
    ∙ ap (λ k. k / second_in_microseconds) (mul_assoc second_in_microseconds n rate)
    ∙ mul-div_cancel_left (n * rate) (omega arith)

pub returns-clause-ahead : goal.returns-clause-ahead
returns-clause-ahead c = λ counts n. ap (λ k. (counts.ts + k) % 2 ^ 32) (units counts.moment n counts.rate)

pub returns-clause-seconds : goal.returns-clause-seconds
returns-clause-seconds c moment = omega arith

pub returns-clause-not_later : goal.returns-clause-not_later
returns-clause-not_later c moment = omega arith

pub returns-clause-not_earlier : goal.returns-clause-not_earlier
returns-clause-not_earlier c moment = omega arith
