-- What is parsed of digits.
use Rattle.std.proofs.Common.{◌≡◌, ℕ, ◌<◌, ◌^◌, List, length, Some, Result, Ok, Err}
use Rattle.std.proofs.Common.{refl, ap, rules, true, inl, inr}
use Rattle.std.specs.List.{list_all}
use Rattle.std.specs.Char.{is_ascii_digit}
use Rattle.std.specs.Str.{IsUtf8}
use Rattle.std.specs.Str.Parse.{ParsesUnsigned, digits_value}
use Rattle.std.specs.Result.{result_ok, OkIff}
use Rattle.std.proofs.lemmas.Str.Parse.{IsNumeralModel, IsDigitsTest, numerals_by_value, parse_digits}
use Rattle.std.proofs.lemmas.Fmt.{IsAscii-from_digits}
use Rattle.std.proofs.lemmas.Str.{IsUtf8-from_ascii}
use Rattle.std.proofs.lemmas.Bool.{lt-ltb, le-ltb, cases_lt}
use Rattle.desk_http.specs.Versions.{is_digits, in_64_bits}

tells : IsDigitsTest (λ ds. list_all is_ascii_digit ds ≡ true)
tells = search rules

own : IsNumeralModel (λ ds. list_all is_ascii_digit ds ≡ true) (digits_value 10)
own = numerals_by_value _ tells

digits_of : (word : List ℕ) → is_digits word ≡ true → (list_all is_ascii_digit word ≡ true) × (0 < length word)
digits_of word h = (search rules, search rules)

given : {E : Type 0} (r : Result ℕ E) (n : ℕ) (P : Type 0) → P → OkIff r (P × (n < 2 ^ 64)) n
    → result_ok r ≡ in_64_bits n
given (Ok x) n P p h = rw (lt-ltb n (2 ^ 64) h.0.1) (ap Some h.1)
given (Err e) n P p h =
    elim (cases_lt n (2 ^ 64)) [ inl lt ↦ absurd (h (p, lt)) | inr le ↦ rw (le-ltb n (2 ^ 64) le) refl ]

pub parsed : {E : Type 0} (word : List ℕ) (r : Result ℕ E) → is_digits word ≡ true → ParsesUnsigned 64 10 word r
    → result_ok r ≡ in_64_bits (digits_value 10 word)
parsed word r h p =
    let d = digits_of word h in
    given r (digits_value 10 word) (0 < length word) d.1 (parse_digits own 64 word r p d.0)

pub text_of_digits : (word : List ℕ) → is_digits word ≡ true → IsUtf8 word
text_of_digits word h = IsUtf8-from_ascii word (IsAscii-from_digits word (own.to word (digits_of word h).0))
