-- What is parsed of digits.
use Rattle.std.proofs.Common.{◌≡◌, ℕ, ◌+◌, ◌<◌, ◌≤◌, ◌^◌, List, length, get_or, Option, Some, None, Result, Ok, Err}
use Rattle.std.proofs.Common.{refl, sym, ap, ◌∙◌, arith, rules, ltb, Bool, true, false, cond, inl, inr}
use Rattle.std.specs.List.{list_all}
use Rattle.std.specs.Char.{is_ascii_digit}
use Rattle.std.specs.Str.{IsUtf8}
use Rattle.std.specs.Str.Parse.{ParsesUnsigned, digits_value}
use Rattle.std.specs.Result.{result_ok, OkIff}
use Rattle.std.proofs.lemmas.Str.Parse.{IsNumeralModel, IsDigitsTest, numerals_by_value, parse_digits}
use Rattle.std.proofs.lemmas.Fmt.{IsAscii-from_digits, decimal-digits_value, digits_decimal, digits_value-decimal}
use Rattle.std.proofs.lemmas.Fmt.{decimal_nonempty, first_decimal, decimal_digit}
use Rattle.std.proofs.lemmas.Bool.Decides.{nat_tests}
use Rattle.std.specs.Fmt.{decimal}
use Rattle.std.proofs.lemmas.Str.{IsUtf8-from_ascii}
use Rattle.std.proofs.lemmas.Bool.{lt-ltb, le-ltb, ltb-true, cases_lt}
use Rattle.desk_text.specs.Numbers.{is_number, below, decimal_of}

tells : IsDigitsTest (λ ds. list_all is_ascii_digit ds ≡ true)
tells = search rules

pub own : IsNumeralModel (λ ds. list_all is_ascii_digit ds ≡ true) (digits_value 10)
own = numerals_by_value _ tells

digits_of_number : (word : List ℕ) → is_number word ≡ true → (list_all is_ascii_digit word ≡ true) × (0 < length word)
digits_of_number word h = (search rules, search rules)

given : {E : Type 0} (r : Result ℕ E) (n : ℕ) (P : Type 0) → P → OkIff r (P × (n < 2 ^ 64)) n
    → result_ok r ≡ below (2 ^ 64) n
given (Ok x) n P p h = rw (lt-ltb n (2 ^ 64) h.0.1) (ap Some h.1)
given (Err e) n P p h =
    elim (cases_lt n (2 ^ 64)) [ inl lt ↦ absurd (h (p, lt)) | inr le ↦ rw (le-ltb n (2 ^ 64) le) refl ]

pub parsed : {E : Type 0} (word : List ℕ) (r : Result ℕ E) → is_number word ≡ true → ParsesUnsigned 64 10 word r
    → result_ok r ≡ below (2 ^ 64) (digits_value 10 word)
parsed word r h p =
    let d = digits_of_number word h in
    given r (digits_value 10 word) (0 < length word) d.1 (parse_digits own 64 word r p d.0)

pub text_of_number : (word : List ℕ) → is_number word ≡ true → IsUtf8 word
text_of_number word h = IsUtf8-from_ascii word (IsAscii-from_digits word (own.to word (digits_of_number word h).0))

-- ---- a number's word is what is printed of the number

some_is : {A : Type 0} (b : Bool) (x y : A) → cond b (Some x) None ≡ Some y → (b ≡ true) × (x ≡ y)
some_is true x y e = (refl, cc)
some_is false x y e = absurd cc

outer : (b : Bool) (o : Option ℕ) (n : ℕ) → cond b o None ≡ Some n → (b ≡ true) × (o ≡ Some n)
outer true o n e = (refl, e)
outer false o n e = absurd cc

no_zero_first : (word : List ℕ) → is_number word ≡ true → get_or word 0 0 ≡ 48 → length word ≡ 1
no_zero_first word h z = grind (arith, nat_tests)

pub spelled : (max n : ℕ) (word : List ℕ) → max < 2 ^ 64 → decimal_of max word ≡ Some n → (word ≡ decimal n) × (n ≤ max)
spelled max n word small e =
    let a = outer (is_number word) (below (max + 1) (digits_value 10 word)) n e in
    let b = some_is (ltb (digits_value 10 word) (max + 1)) (digits_value 10 word) n a.1 in
    let d = digits_of_number word a.0 in
    let in_range : digits_value 10 word < max + 1 = ltb-true _ _ b.0 in
    let printed : decimal (digits_value 10 word) ≡ word =
    decimal-digits_value own word d.0 d.1 (no_zero_first word a.0) (omega arith) in
    (sym printed ∙ ap decimal b.1, omega arith)

number_from : (word : List ℕ) → list_all is_ascii_digit word ≡ true → 0 < length word
    → (get_or word 0 0 ≡ 48 → length word ≡ 1) → is_number word ≡ true
number_from word d some zero = grind (arith, nat_tests)

zero_alone : (n : ℕ) → n < 2 ^ 64 → get_or (decimal n) 0 0 ≡ 48 → length (decimal n) ≡ 1
zero_alone n small e =
    elim (cases_lt 0 n) [
      | inl more ↦ absurd (omega (arith, first_decimal n more small))
      | inr none ↦ ap length (decimal_digit n (omega arith))
    ]

is_number_decimal : (n : ℕ) → n < 2 ^ 64 → is_number (decimal n) ≡ true
is_number_decimal n small =
    number_from (decimal n) (digits_decimal own n small) (decimal_nonempty n small) (zero_alone n small)

pub read : (max n : ℕ) → max < 2 ^ 64 → n ≤ max → decimal_of max (decimal n) ≡ Some n
read max n small le =
    let low : n < 2 ^ 64 = omega arith in
    let v : digits_value 10 (decimal n) ≡ n = digits_value-decimal own n low in
    rw (is_number_decimal n low, v, lt-ltb n (max + 1) (omega arith)) refl
