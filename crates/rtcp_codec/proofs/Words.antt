-- The numbers that words name, one bit and one word after another.
use Rattle.std.proofs.Common.{◌≡◌, ℕ, zero, suc, ◌+◌, ◌-◌, ◌*◌, ◌/◌, ◌%◌, ◌^◌, ◌<◌, Bool, true, false, cond, eqb, List}
use Rattle.std.proofs.Common.{[], ◌∷◌, ◌++◌, map, refl, sym, ap, ◌∙◌, append_assoc, arith, eq-eqb}
use Rattle.std.specs.List.{range_with_len, filter}
use Rattle.std.proofs.lemmas.List.{map-append, append-nil}
use Rattle.std.proofs.lemmas.Bool.{ne_eqb}
use Rattle.std.proofs.lemmas.List.Elements.{filter-append}
use Rattle.std.proofs.Math.Nat.{pow-succ', pow-suc, add-mul-div_right}
use Rattle.std.proofs.lemmas.Nat.{pow_pos, div_below}
use Rattle.rtcp_codec.specs.Nack.{has_bit, numbers_of, most_bits}
use Rattle.rtcp_codec.specs.inner.Greedy.{numbers_up_to}

range-more : (a n : ℕ) → range_with_len a (suc n) ≡ range_with_len a n ++ (a + n) ∷ []
range-more a zero = ap (λ (x : ℕ). x ∷ []) (omega arith)
range-more a (suc n) =
    let last : a + 1 + n ≡ a + suc n = omega arith in
    ap (λ (l : List ℕ). a ∷ l) (range-more (a + 1) n ∙ ap (λ (x : ℕ). range_with_len (a + 1) n ++ x ∷ []) last)

map-cond : (f : ℕ → ℕ) (b : Bool) (x : ℕ) → map f (cond b (x ∷ []) []) ≡ cond b (f x ∷ []) []
map-cond f true x = refl
map-cond f false x = refl

-- the last bit adds a number if it is set
numbers-more : (n pid blp : ℕ)
    → numbers_up_to (suc n) pid blp
    ≡ numbers_up_to n pid blp ++ cond (has_bit blp (1 + n)) ((pid + (1 + n)) % 2 ^ 16 ∷ []) []
unfolding numbers_up_to
numbers-more n pid blp =
    let f : ℕ → ℕ = λ i. (pid + i) % 2 ^ 16 in
    let p : ℕ → Bool = has_bit blp in
    let range = range_with_len 1 n in
    ap (λ (l : List ℕ). pid ∷ map f (filter p l)) (range-more 1 n)
    ∙ ap (λ (l : List ℕ). pid ∷ map f l) (filter-append p range ((1 + n) ∷ []))
    ∙ ap (λ (l : List ℕ). pid ∷ l) (map-append f (filter p range) (filter p ((1 + n) ∷ [])))
    ∙ ap (λ (l : List ℕ). (pid ∷ map f (filter p range)) ++ l) (map-cond f (p (1 + n)) (1 + n))

pub named_bit : (i pid blp : ℕ) → 0 < i → blp / 2 ^ (i - 1) % 2 ≡ 1
    → numbers_up_to (i + 1 - 1) pid blp ≡ numbers_up_to (i - 1) pid blp ++ (pid + i) % 2 ^ 16 ∷ []
named_bit zero pid blp h set = absurd (omega arith)
named_bit (suc n) pid blp h set =
    let up : suc n + 1 - 1 ≡ suc n = omega arith in
    let down : suc n - 1 ≡ n = omega arith in
    let one : 1 + n ≡ suc n = omega arith in
    let test : has_bit blp (suc n) ≡ true = eq-eqb (blp / 2 ^ (suc n - 1) % 2) 1 set in
    ap (λ (k : ℕ). numbers_up_to k pid blp) up ∙ numbers-more n pid blp
    ∙ ap (λ (k : ℕ). numbers_up_to n pid blp ++ cond (has_bit blp k) ((pid + k) % 2 ^ 16 ∷ []) []) one
    ∙ ap (λ (b : Bool). numbers_up_to n pid blp ++ cond b ((pid + suc n) % 2 ^ 16 ∷ []) []) test
    ∙ ap (λ (k : ℕ). numbers_up_to k pid blp ++ (pid + suc n) % 2 ^ 16 ∷ []) (sym down)

pub unnamed_bit : (i pid blp : ℕ) → 0 < i → (blp / 2 ^ (i - 1) % 2 ≡ 1 → ⊥)
    → numbers_up_to (i + 1 - 1) pid blp ≡ numbers_up_to (i - 1) pid blp
unnamed_bit zero pid blp h set = absurd (omega arith)
unnamed_bit (suc n) pid blp h set =
    let up : suc n + 1 - 1 ≡ suc n = omega arith in
    let down : suc n - 1 ≡ n = omega arith in
    let one : 1 + n ≡ suc n = omega arith in
    let test : has_bit blp (suc n) ≡ false = ne_eqb (blp / 2 ^ (suc n - 1) % 2) 1 set in
    ap (λ (k : ℕ). numbers_up_to k pid blp) up ∙ numbers-more n pid blp
    ∙ ap (λ (k : ℕ). numbers_up_to n pid blp ++ cond (has_bit blp k) ((pid + k) % 2 ^ 16 ∷ []) []) one
    ∙ ap (λ (b : Bool). numbers_up_to n pid blp ++ cond b ((pid + suc n) % 2 ^ 16 ∷ []) []) test
    ∙ append-nil (numbers_up_to n pid blp)
    ∙ ap (λ (k : ℕ). numbers_up_to k pid blp) (sym down)

-- ---- bits from the least significant on

regroup : (k q : ℕ) → k * (2 * q) ≡ (2 * k) * q
regroup k q = omega arith

even_more : (x k : ℕ) → (x + 2 * k) % 2 ≡ x % 2
even_more x k = omega arith

same_bit : (n m k b : ℕ) → m ≡ 2 * k → (b + m * 2 ^ n) / 2 ^ (1 + n - 1) % 2 ≡ b / 2 ^ (1 + n - 1) % 2
same_bit n m k b e =
    let at : 1 + n - 1 ≡ n = omega arith in
    ap (λ (j : ℕ). (b + m * 2 ^ n) / 2 ^ j % 2) at
    ∙ ap (λ (x : ℕ). x % 2) (add-mul-div_right b m {z = 2 ^ n} (pow_pos n))
    ∙ ap (λ (j : ℕ). (b / 2 ^ n + j) % 2) e
    ∙ even_more (b / 2 ^ n) k
    ∙ ap (λ (j : ℕ). b / 2 ^ j % 2) (sym at)

-- bits from n on change no number below
low_bits : (n k pid b : ℕ) → numbers_up_to n pid (b + k * 2 ^ n) ≡ numbers_up_to n pid b
unfolding numbers_up_to
low_bits zero k pid b = refl
low_bits (suc n) k pid b =
    let two : k * 2 ^ suc n ≡ (2 * k) * 2 ^ n = ap (λ (m : ℕ). k * m) (pow-succ' 2 n) ∙ regroup k (2 ^ n) in
    let whole : b + k * 2 ^ suc n ≡ b + (2 * k) * 2 ^ n = ap (λ (m : ℕ). b + m) two in
    let below : numbers_up_to n pid (b + k * 2 ^ suc n) ≡ numbers_up_to n pid b =
    ap (λ (m : ℕ). numbers_up_to n pid m) whole ∙ low_bits n (2 * k) pid b in
    let test : has_bit (b + k * 2 ^ suc n) (1 + n) ≡ has_bit b (1 + n) =
    ap (λ (m : ℕ). eqb (m / 2 ^ (1 + n - 1) % 2) 1) whole ∙ ap (λ (m : ℕ). eqb m 1) (same_bit n (2 * k) k b refl) in
    numbers-more n pid (b + k * 2 ^ suc n)
    ∙ ap (λ (l : List ℕ). l ++ cond (has_bit (b + k * 2 ^ suc n) (1 + n)) ((pid + (1 + n)) % 2 ^ 16 ∷ []) []) below
    ∙ ap (λ (t : Bool). numbers_up_to n pid b ++ cond t ((pid + (1 + n)) % 2 ^ 16 ∷ []) []) test
    ∙ sym (numbers-more n pid b)

top_bit : (b bit : ℕ) → 0 < bit → b < bit → (b + bit) / bit % 2 ≡ 1
top_bit b bit some lt =
    let one : b + bit ≡ b + 1 * bit = omega arith in
    let q : (b + 1 * bit) / bit ≡ b / bit + 1 = add-mul-div_right b 1 {z = bit} some in
    let z : b / bit < 1 = div_below b bit 1 some (omega arith) in
    ap (λ (m : ℕ). m / bit % 2) one ∙ ap (λ (m : ℕ). m % 2) q ∙ omega (arith, z)

-- the bit of number i is set above all lower ones
pub set_bit : (i pid b bit : ℕ) → 0 < i → bit ≡ 2 ^ (i - 1) → b < bit
    → numbers_up_to (i + 1 - 1) pid (b + bit) ≡ numbers_up_to (i - 1) pid b ++ (pid + i) % 2 ^ 16 ∷ []
set_bit i pid b bit some power lt =
    let test : (b + bit) / 2 ^ (i - 1) % 2 ≡ 1 =
    ap (λ (q : ℕ). (b + bit) / q % 2) (sym power) ∙ top_bit b bit (omega arith) lt in
    let one : b + bit ≡ b + 1 * 2 ^ (i - 1) = omega arith in
    named_bit i pid (b + bit) some test
    ∙ ap (λ (l : List ℕ). l ++ (pid + i) % 2 ^ 16 ∷ []) (ap (numbers_up_to (i - 1) pid) one ∙ low_bits (i - 1) 1 pid b)

-- the bit of number i isn't set
pub clear_bit : (i pid b bit : ℕ) → 0 < i → bit ≡ 2 ^ (i - 1) → b < bit
    → numbers_up_to (i + 1 - 1) pid b ≡ numbers_up_to (i - 1) pid b
clear_bit i pid b bit some power lt =
    let z : b / bit < 1 = div_below b bit 1 (omega arith) (omega arith) in
    let q : b / 2 ^ (i - 1) ≡ b / bit = ap (λ (q : ℕ). b / q) (sym power) in
    unnamed_bit i pid b some (λ e. omega (arith, e, q, z))

-- the next power
pub next_power : (i bit : ℕ) → 0 < i → bit ≡ 2 ^ (i - 1) → bit * 2 ≡ 2 ^ (i + 1 - 1)
next_power zero bit some e = absurd (omega arith)
next_power (suc n) bit some e =
    let at : suc n + 1 - 1 ≡ suc n = omega arith in
    let from : suc n - 1 ≡ n = omega arith in
    ap (λ (q : ℕ). q * 2) (e ∙ ap (λ (j : ℕ). 2 ^ j) from) ∙ sym (pow-suc 2 n) ∙ ap (λ (j : ℕ). 2 ^ j) (sym at)

-- a turn: the number of this bit stands at the front and the bit is set, or neither
pub record Turned (i pid blp bit : ℕ) (after numbers : List ℕ) : Type 0 where
  pub names : numbers_up_to (i + 1 - 1) pid blp ++ after ≡ pid ∷ numbers
  pub below : blp < bit * 2

pub turned : (set : Bool) (i pid blp bit now : ℕ) (rest after numbers : List ℕ) → 0 < i → bit ≡ 2 ^ (i - 1) → blp < bit
    → numbers_up_to (i - 1) pid blp ++ rest ≡ pid ∷ numbers → rest ≡ cond set ((pid + i) % 2 ^ 16 ∷ []) [] ++ after
    → now ≡ cond set (blp + bit) blp → Turned i pid now bit after numbers
turned true i pid blp bit now rest after numbers some power lt so_far front is = record {
  names =
      ap (λ (b : ℕ). numbers_up_to (i + 1 - 1) pid b ++ after) is
      ∙ ap (λ (l : List ℕ). l ++ after) (set_bit i pid blp bit some power lt)
      ∙ append_assoc (numbers_up_to (i - 1) pid blp) ((pid + i) % 2 ^ 16 ∷ []) after
      ∙ ap (λ (l : List ℕ). numbers_up_to (i - 1) pid blp ++ l) (sym front)
      ∙ so_far;
  below = omega (arith, is);
}
turned false i pid blp bit now rest after numbers some power lt so_far front is = record {
  names =
      ap (λ (b : ℕ). numbers_up_to (i + 1 - 1) pid b ++ after) is
      ∙ ap (λ (l : List ℕ). l ++ after) (clear_bit i pid blp bit some power lt)
      ∙ ap (λ (l : List ℕ). numbers_up_to (i - 1) pid blp ++ l) (sym front)
      ∙ so_far;
  below = omega (arith, is);
}

-- the numbers of a word are those up to its last bit
pub numbers_are : (pid blp : ℕ) → numbers_of pid blp ≡ numbers_up_to most_bits pid blp
unfolding numbers_of numbers_up_to
numbers_are pid blp = refl
