-- Any numbers can be packed: a word takes what it may, bit by bit, and further words take the rest.
use Rattle.std.proofs.Common.{◌≡◌, ◌⊎◌, ℕ, zero, suc, ◌+◌, ◌-◌, ◌%◌, ◌^◌, ◌<◌, ◌≤◌, true, false, cond, List, [], ◌∷◌}
use Rattle.std.proofs.Common.{◌++◌, length, get_or, refl, sym, ap, subst, ◌∙◌, arith, inl, inr}
use Rattle.std.specs.List.{AllByRecursion}
use Rattle.std.proofs.lemmas.Bool.{cases_eq}
use Rattle.std.proofs.lemmas.List.Concat.{flat_map-cons}
use Rattle.rtcp_codec.specs.Packet.{Begin}
use Rattle.rtcp_codec.specs.declared.nack.NackWord.{NackWord}
use Rattle.rtcp_codec.specs.Nack.{most_bits, numbers_of, numbers_named, IsPacking, FitsWord}
use Rattle.rtcp_codec.specs.inner.Greedy.{numbers_up_to, TakesAll, AreGreedy}
use Rattle.rtcp_codec.proofs.Words.{turned, next_power, numbers_are}
use Rattle.rtcp_codec.proofs.Packing.{TakesUpTo, fit_after, takes_none, takes_more, takes_all, are_packed}

abbrev Are16 : List ℕ → Type 0
Are16 numbers = AllByRecursion (λ n. n < 2 ^ 16) numbers

-- a word that takes what it may of the numbers, and what it leaves
record Taken (pid : ℕ) (numbers : List ℕ) : Type 0 where
  pub blp : ℕ
  pub after : List ℕ
  pub names : numbers_up_to most_bits pid blp ++ after ≡ pid ∷ numbers
  pub below : blp < 2 ^ 16
  pub takes : TakesUpTo most_bits pid blp after
  pub fits : (k : ℕ) → get_or after k 0 < 2 ^ 16
  pub left : length after ≤ length numbers

-- a number stands at the front or doesn't
front : (x : ℕ) (l : List ℕ) → Begin (x ∷ []) l ⊎ (Begin (x ∷ []) l → ⊥)
front x [] = inr (λ b. omega (arith, ap (λ (l : List ℕ). length l) b.1))
front x (y ∷ ys) = elim (cases_eq y x) [
  | inl e ↦ inl (ys, ap (λ (n : ℕ). n ∷ ys) e)
  | inr other ↦ inr (λ b. other (ap (λ (l : List ℕ). get_or l 0 0) b.1))
]

-- the bits from i on
take_bits : (n i pid blp : ℕ) (rest numbers : List ℕ) → 0 < i → i + n ≡ 17 → pid < 2 ^ 16 → blp < 2 ^ (i - 1)
    → numbers_up_to (i - 1) pid blp ++ rest ≡ pid ∷ numbers → TakesUpTo (i - 1) pid blp rest
    → ((k : ℕ) → get_or rest k 0 < 2 ^ 16) → length rest ≤ length numbers → Taken pid numbers
take_bits zero i pid blp rest numbers some all fits lt names takes few left =
    let end : i - 1 ≡ most_bits = omega arith in
    record {
      blp = blp;
      after = rest;
      names = subst (λ (j : ℕ). numbers_up_to j pid blp ++ rest ≡ pid ∷ numbers) end names;
      below = subst (λ (j : ℕ). blp < 2 ^ j) end lt;
      takes = subst (λ (j : ℕ). TakesUpTo j pid blp rest) end takes;
      fits = few;
      left = left;
    }
take_bits (suc n) i pid blp rest numbers some all fits lt names takes few left =
    let bit : ℕ = 2 ^ (i - 1) in
    let power = next_power i bit some refl in
    let x = (pid + i) % 2 ^ 16 in
    elim (front x rest) [
      | inl b ↦
          let parts : rest ≡ cond true (x ∷ []) [] ++ b.0 = b.1 in
          let t = turned true i pid blp bit (blp + bit) rest b.0 numbers some refl lt names parts refl in
          take_bits n (i + 1) pid (blp + bit) b.0 numbers (omega arith) (omega arith) fits
          (subst (λ (m : ℕ). blp + bit < m) power t.below) t.names
          (takes_more true i pid blp bit (blp + bit) rest b.0 some (omega arith) fits refl lt few takes parts refl
          (λ h. refl))
          (fit_after true x rest b.0 few parts)
          (omega (arith, ap (λ (l : List ℕ). length l) parts, left))
      | inr none ↦
          let t = turned false i pid blp bit blp rest rest numbers some refl lt names refl refl in
          take_bits n (i + 1) pid blp rest numbers (omega arith) (omega arith) fits
          (subst (λ (m : ℕ). blp < m) power t.below) t.names
          (takes_more false i pid blp bit blp rest rest some (omega arith) fits refl lt few takes refl refl
          (λ h. absurd (none h)))
          few left
    ]

take_word : (pid : ℕ) (numbers : List ℕ) → pid < 2 ^ 16 → ((k : ℕ) → get_or numbers k 0 < 2 ^ 16) → Taken pid numbers
unfolding numbers_up_to
take_word pid numbers fits few =
    take_bits 16 1 pid 0 numbers numbers (omega arith) refl fits (omega arith) refl (takes_none pid numbers fits) few
    (omega arith)

-- words that take all of the numbers
record Words (numbers : List ℕ) : Type 0 where
  pub words : List NackWord
  pub names : numbers_named words ≡ numbers
  pub greedy : AreGreedy words
  pub fits : AllByRecursion FitsWord words

take_words : (n : ℕ) (numbers : List ℕ) → length numbers ≤ n → ((k : ℕ) → get_or numbers k 0 < 2 ^ 16) → Words numbers
take_words n [] le few = record { words = []; names = refl; greedy = tt; fits = tt }
take_words zero (pid ∷ numbers) le few = absurd (omega arith)
take_words (suc n) (pid ∷ numbers) le few =
    let w = take_word pid numbers (few 0) (λ k. few (suc k)) in
    let r = take_words n w.after (omega (arith, w.left)) w.fits in
    let one : NackWord = record { pid = pid; blp = w.blp } in
    record {
      words = one ∷ r.words;
      names =
          flat_map-cons (λ (x : NackWord). numbers_of x.pid x.blp) one r.words
          ∙ ap (λ (l : List ℕ). numbers_of pid w.blp ++ l) r.names
          ∙ ap (λ (l : List ℕ). l ++ w.after) (numbers_are pid w.blp)
          ∙ w.names;
      greedy = (subst (TakesAll pid w.blp) (sym r.names) (takes_all pid w.blp w.after w.takes), r.greedy);
      fits = (record { pid = few 0; blp = w.below }, r.fits);
    }

fit_each : (numbers : List ℕ) → Are16 numbers → (k : ℕ) → get_or numbers k 0 < 2 ^ 16
fit_each [] h k = omega arith
fit_each (x ∷ xs) h zero = h.0
fit_each (x ∷ xs) h (suc k) = fit_each xs h.1 k

pub words_for : (numbers : List ℕ) → AllByRecursion (λ n. n < 2 ^ 16) numbers
    → (words : List NackWord) × IsPacking numbers words
words_for numbers h =
    let w = take_words (length numbers) numbers (omega arith) (fit_each numbers h) in
    (w.words, record { names = w.names; packed = are_packed w.words w.greedy; fits = w.fits })
