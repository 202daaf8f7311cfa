-- A moment's units, by its whole seconds and the rest.
use Rattle.std.proofs.Common.{◌≡◌, ℕ, ◌+◌, ◌*◌, ◌/◌, ◌%◌, sym, ap, ◌∙◌, arith, add-mul, mul_right_comm}
use Rattle.std.proofs.lemmas.Nat.{div-add-mod'}
use Rattle.std.proofs.Math.Nat.{mul-add-div_right}

pub in_two : (moment rate : ℕ)
    → moment * rate / 1000000000 ≡ moment / 1000000000 * rate + moment % 1000000000 * rate / 1000000000
in_two moment rate =
    let whole : moment * rate ≡ moment / 1000000000 * rate * 1000000000 + moment % 1000000000 * rate =
    ap (λ n. n * rate) (sym (div-add-mod' moment 1000000000))
    ∙ add-mul (moment / 1000000000 * 1000000000) (moment % 1000000000) rate
    ∙ ap (λ n. n + moment % 1000000000 * rate) (mul_right_comm (moment / 1000000000) 1000000000 rate) in
    ap (λ n. n / 1000000000) whole
    ∙ mul-add-div_right (omega arith) (moment / 1000000000 * rate) (moment % 1000000000 * rate)
