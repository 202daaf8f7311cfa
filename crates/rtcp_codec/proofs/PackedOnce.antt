-- Only one list of words is packed for the same numbers.
use Rattle.std.proofs.Common.{◌≡◌, ℕ, zero, suc, ◌+◌, ◌-◌, ◌/◌, ◌%◌, ◌^◌, ◌<◌, ◌≤◌, true, false, List, [], ◌∷◌, ◌++◌}
use Rattle.std.proofs.Common.{map, get_or, drop, refl, sym, ap, subst, ◌∙◌, arith, inl, inr}
use Rattle.std.specs.Prelude.{All, ⊤}
use Rattle.std.specs.List.{range_with_len, filter, AllByRecursion}
use Rattle.std.proofs.lemmas.Bool.{cases_Bool, cases_lt}
use Rattle.std.proofs.lemmas.Bool.Decides.{nat_tests}
use Rattle.std.proofs.lemmas.List.Elements.{All-nil, All-cons, All-same}
use Rattle.std.proofs.lemmas.List.Concat.{flat_map-cons}
use Rattle.std.proofs.Math.Nat.{pow-suc, div-div-eq-div-mul}
use Rattle.rtp_codec.specs.Sequence.{distance}
use Rattle.rtcp_codec.specs.declared.nack.NackWord.{NackWord}
use Rattle.rtcp_codec.specs.Nack.{most_bits, has_bit, numbers_of, numbers_named, ArePacked, FitsWord}
use Rattle.rtcp_codec.specs.inner.Greedy.{TakesAll}
use Rattle.rtcp_codec.proofs.Packing.{begins, distance-ahead}

-- ---- one word

-- the numbers that a word names by n bits from bit i on
abbrev named_from : ℕ → ℕ → ℕ → ℕ → List ℕ
named_from i n pid blp = map (λ k. (pid + k) % 2 ^ 16) (filter (has_bit blp) (range_with_len i n))

-- of the numbers behind these, the first isn't one that a bit from i on may name
abbrev Stops : ℕ → ℕ → ℕ → ℕ → List ℕ → Type 0
Stops i n pid blp [] = ⊤
Stops i n pid blp (x ∷ xs) =
    All (λ m. distance pid m < distance pid x) (named_from i n pid blp) → distance pid x ≤ most_bits
    → distance pid x < i

named_set : (i n pid blp : ℕ) → has_bit blp i ≡ true
    → named_from i (suc n) pid blp ≡ (pid + i) % 2 ^ 16 ∷ named_from (i + 1) n pid blp
named_set i n pid blp set = rw set refl

named_clear : (i n pid blp : ℕ) → has_bit blp i ≡ false → named_from i (suc n) pid blp ≡ named_from (i + 1) n pid blp
named_clear i n pid blp clear = rw clear refl

stops_set : (i n pid blp : ℕ) (rest : List ℕ) → has_bit blp i ≡ true → i ≤ most_bits → pid < 2 ^ 16
    → Stops i (suc n) pid blp rest → Stops (i + 1) n pid blp rest
stops_set i n pid blp [] set few fits stops = tt
stops_set i n pid blp (x ∷ xs) set few fits stops = λ all near.
    let P : ℕ → Type 0 = λ m. distance pid m < distance pid x in
    let ahead = distance-ahead i pid few fits in
    elim (cases_lt i (distance pid x)) [
      | inl lt ↦
          absurd (omega (
            arith,
            lt,
            stops
                (All-same P _ _ (named_set i n pid blp set)
                (All-cons P ((pid + i) % 2 ^ 16) (named_from (i + 1) n pid blp) (omega (arith, ahead, lt)) all))
                near,
          ))
      | inr le ↦ omega (arith, le)
    ]

stops_clear : (i n pid blp : ℕ) (rest : List ℕ) → has_bit blp i ≡ false → Stops i (suc n) pid blp rest
    → Stops (i + 1) n pid blp rest
stops_clear i n pid blp [] clear stops = tt
stops_clear i n pid blp (x ∷ xs) clear stops = λ all near.
    let before = stops (All-same (λ m. distance pid m < distance pid x) _ _ (named_clear i n pid blp clear) all) near in
    omega (arith, before)

-- no bit from i on names the number of a bit before
not_named : (n i k pid blp : ℕ) (rest zs : List ℕ) → k < i → i + n ≡ 17
    → named_from i n pid blp ++ rest ≡ (pid + k) % 2 ^ 16 ∷ zs
    → (named_from i n pid blp ≡ []) × (rest ≡ (pid + k) % 2 ^ 16 ∷ zs)
not_named zero i k pid blp rest zs lt all e = (refl, e)
not_named (suc n) i k pid blp rest zs lt all e = elim (cases_Bool (has_bit blp i)) [
  | inl set ↦
      let heads : (pid + i) % 2 ^ 16 ≡ (pid + k) % 2 ^ 16 =
      ap (λ (l : List ℕ). get_or l 0 0) (sym (ap (λ (l : List ℕ). l ++ rest) (named_set i n pid blp set)) ∙ e) in
      absurd (omega (arith, heads))
  | inr clear ↦
      let f = named_clear i n pid blp clear in
      let r =
      not_named n (i + 1) k pid blp rest zs (omega arith) (omega arith) (sym (ap (λ (l : List ℕ). l ++ rest) f) ∙ e) in
      (f ∙ r.0, r.1)
]

not_left : (i n pid blp : ℕ) (rest zs : List ℕ) → i ≤ most_bits → pid < 2 ^ 16 → Stops i n pid blp rest
    → named_from i n pid blp ≡ [] → rest ≡ (pid + i) % 2 ^ 16 ∷ zs → ⊥
not_left i n pid blp rest zs few fits stops none e =
    let x = (pid + i) % 2 ^ 16 in
    let ahead = distance-ahead i pid few fits in
    let P : ℕ → Type 0 = λ m. distance pid m < distance pid x in
    let before : distance pid x < i =
    subst (Stops i n pid blp) e stops (All-same P _ _ none (All-nil P)) (omega (arith, ahead)) in
    omega (arith, ahead, before)

-- one word names by bit i what the other one leaves
one_sided : (n i pid a b : ℕ) (xs ys : List ℕ) → has_bit a i ≡ true → has_bit b i ≡ false → i + suc n ≡ 17
    → pid < 2 ^ 16 → Stops i (suc n) pid b ys → named_from i (suc n) pid a ++ xs ≡ named_from i (suc n) pid b ++ ys → ⊥
one_sided n i pid a b xs ys set clear all fits stops e =
    let zs = named_from (i + 1) n pid a ++ xs in
    let f = named_clear i n pid b clear in
    let there : named_from (i + 1) n pid b ++ ys ≡ (pid + i) % 2 ^ 16 ∷ zs =
    sym (sym (ap (λ (l : List ℕ). l ++ xs) (named_set i n pid a set)) ∙ e ∙ ap (λ (l : List ℕ). l ++ ys) f) in
    let r = not_named n (i + 1) i pid b ys zs (omega arith) (omega arith) there in
    not_left i (suc n) pid b ys zs (omega arith) fits stops (f ∙ r.0) r.1

halved : (i a : ℕ) → 0 < i → a / 2 ^ (i + 1 - 1) ≡ a / 2 ^ (i - 1) / 2
halved zero a some = absurd (omega arith)
halved (suc n) a some =
    let up : suc n + 1 - 1 ≡ suc n = omega arith in
    let down : suc n - 1 ≡ n = omega arith in
    ap (λ (k : ℕ). a / 2 ^ k) up
    ∙ ap (λ (q : ℕ). a / q) (pow-suc 2 n)
    ∙ sym (div-div-eq-div-mul a (2 ^ n) 2)
    ∙ ap (λ (k : ℕ). a / 2 ^ k / 2) (sym down)

same_halves : (x y : ℕ) → x / 2 ≡ y / 2 → x % 2 ≡ y % 2 → x ≡ y
same_halves x y h l = omega (arith, h, l)

same_from : (i a b : ℕ) → 0 < i → a / 2 ^ (i + 1 - 1) ≡ b / 2 ^ (i + 1 - 1) → a / 2 ^ (i - 1) % 2 ≡ b / 2 ^ (i - 1) % 2
    → a / 2 ^ (i - 1) ≡ b / 2 ^ (i - 1)
same_from i a b some above bit =
    same_halves (a / 2 ^ (i - 1)) (b / 2 ^ (i - 1)) (sym (halved i a some) ∙ above ∙ halved i b some) bit

is_one : (i a : ℕ) → has_bit a i ≡ true → a / 2 ^ (i - 1) % 2 ≡ 1
is_one i a h = grind (arith, nat_tests)

is_zero : (i a : ℕ) → has_bit a i ≡ false → a / 2 ^ (i - 1) % 2 ≡ 0
is_zero i a h = grind (arith, nat_tests)

-- the bits from i on are the same, and so is what is left
record Same (i a b : ℕ) (xs ys : List ℕ) : Type 0 where
  pub bits : a / 2 ^ (i - 1) ≡ b / 2 ^ (i - 1)
  pub rest : xs ≡ ys

same_bits : (n i pid a b : ℕ) (xs ys : List ℕ) → 0 < i → i + n ≡ 17 → pid < 2 ^ 16 → a < 2 ^ 16 → b < 2 ^ 16
    → Stops i n pid a xs → Stops i n pid b ys → named_from i n pid a ++ xs ≡ named_from i n pid b ++ ys
    → Same i a b xs ys
same_bits zero i pid a b xs ys some all fits low-a low-b stops-a stops-b e =
    let last : i - 1 ≡ 16 = omega arith in
    let none : a / 2 ^ 16 ≡ b / 2 ^ 16 = omega arith in
    record { bits = ap (λ (k : ℕ). a / 2 ^ k) last ∙ none ∙ ap (λ (k : ℕ). b / 2 ^ k) (sym last); rest = e }
same_bits (suc n) i pid a b xs ys some all fits low-a low-b stops-a stops-b e = elim (cases_Bool (has_bit a i)) [
  | inl set-a ↦ elim (cases_Bool (has_bit b i)) [
    | inl set-b ↦
        let tails =
        ap (drop 1) (sym (ap (λ (l : List ℕ). l ++ xs) (named_set i n pid a set-a))
        ∙ e
        ∙ ap (λ (l : List ℕ). l ++ ys) (named_set i n pid b set-b)) in
        let r =
        same_bits n (i + 1) pid a b xs ys (omega arith) (omega arith) fits low-a low-b
        (stops_set i n pid a xs set-a (omega arith) fits stops-a)
        (stops_set i n pid b ys set-b (omega arith) fits stops-b) tails in
        record { bits = same_from i a b some r.bits (is_one i a set-a ∙ sym (is_one i b set-b)); rest = r.rest }
    | inr clear-b ↦ absurd (one_sided n i pid a b xs ys set-a clear-b all fits stops-b e)
  ]
  | inr clear-a ↦ elim (cases_Bool (has_bit b i)) [
    | inl set-b ↦ absurd (one_sided n i pid b a ys xs set-b clear-a all fits stops-a (sym e))
    | inr clear-b ↦
        let tails =
        sym (ap (λ (l : List ℕ). l ++ xs) (named_clear i n pid a clear-a))
        ∙ e
        ∙ ap (λ (l : List ℕ). l ++ ys) (named_clear i n pid b clear-b) in
        let r =
        same_bits n (i + 1) pid a b xs ys (omega arith) (omega arith) fits low-a low-b
        (stops_clear i n pid a xs clear-a stops-a) (stops_clear i n pid b ys clear-b stops-b) tails in
        record { bits = same_from i a b some r.bits (is_zero i a clear-a ∙ sym (is_zero i b clear-b)); rest = r.rest }
  ]
]

stops : (pid blp : ℕ) (rest : List ℕ) → pid < 2 ^ 16 → TakesAll pid blp rest → Stops 1 most_bits pid blp rest
unfolding numbers_of
stops pid blp [] fits takes = tt
stops pid blp (x ∷ xs) fits takes = λ all near. elim (cases_lt (distance pid x) 1) [
  | inl lt ↦ lt
  | inr le ↦
      absurd (takes (
        All-cons (λ m. distance pid m < distance pid x) pid (named_from 1 most_bits pid blp) (omega (arith, le)) all,
        near,
      ))
]

record SameWord (pid a b : ℕ) (xs ys : List ℕ) : Type 0 where
  pub blp : a ≡ b
  pub rest : xs ≡ ys

same_word : (pid a b : ℕ) (xs ys : List ℕ) → pid < 2 ^ 16 → a < 2 ^ 16 → b < 2 ^ 16 → TakesAll pid a xs
    → TakesAll pid b ys → numbers_of pid a ++ xs ≡ numbers_of pid b ++ ys → SameWord pid a b xs ys
unfolding numbers_of
same_word pid a b xs ys fits low-a low-b takes-a takes-b e =
    let r =
    same_bits most_bits 1 pid a b xs ys (omega arith) refl fits low-a low-b (stops pid a xs fits takes-a)
    (stops pid b ys fits takes-b) (ap (drop 1) e) in
    record { blp = omega (arith, r.bits); rest = r.rest }

-- ---- words

takes_all_named : (w : NackWord) (ws : List NackWord) → ArePacked (w ∷ ws) → TakesAll w.pid w.blp (numbers_named ws)
takes_all_named w [] packed = tt
takes_all_named w (v ∷ ws) packed = subst (TakesAll w.pid w.blp) (sym (begins v ws).1) packed.0

packed_behind : (w : NackWord) (ws : List NackWord) → ArePacked (w ∷ ws) → ArePacked ws
packed_behind w [] packed = tt
packed_behind w (v ∷ ws) packed = packed.1

named-cons : (w : NackWord) (ws : List NackWord) → numbers_named (w ∷ ws) ≡ numbers_of w.pid w.blp ++ numbers_named ws
named-cons w ws = flat_map-cons (λ (x : NackWord). numbers_of x.pid x.blp) w ws

not_none : (w : NackWord) (ws : List NackWord) → numbers_named (w ∷ ws) ≡ [] → ⊥
not_none w ws e = let x = sym (begins w ws).1 ∙ e in absurd cc

same_words : (w v : NackWord) → w.pid ≡ v.pid → w.blp ≡ v.blp → w ≡ v
same_words w v p b =
    let with_pid : ℕ → NackWord = λ n. record { pid = n; blp = w.blp } in
    let with_blp : ℕ → NackWord = λ n. record { pid = v.pid; blp = n } in
    ap with_pid p ∙ ap with_blp b

pub packed_once : (ws vs : List NackWord) → AllByRecursion FitsWord ws → AllByRecursion FitsWord vs → ArePacked ws
    → ArePacked vs → numbers_named ws ≡ numbers_named vs → ws ≡ vs
packed_once [] [] fit fit' packed packed' e = refl
packed_once [] (v ∷ vs) fit fit' packed packed' e = absurd (not_none v vs (sym e))
packed_once (w ∷ ws) [] fit fit' packed packed' e = absurd (not_none w ws e)
packed_once (w ∷ ws) (v ∷ vs) fit fit' packed packed' e =
    let pid : w.pid ≡ v.pid = ap (λ (l : List ℕ). get_or l 0 0) (sym (begins w ws).1 ∙ e ∙ (begins v vs).1) in
    let parts = sym (named-cons w ws) ∙ e ∙ named-cons v vs in
    let r = same_word v.pid w.blp v.blp (numbers_named ws) (numbers_named vs) fit'.0.pid fit.0.blp fit'.0.blp
    (subst (λ (p : ℕ). TakesAll p w.blp (numbers_named ws)) pid (takes_all_named w ws packed))
    (takes_all_named v vs packed')
    (subst (λ (p : ℕ). numbers_of p w.blp ++ numbers_named ws ≡ numbers_of v.pid v.blp ++ numbers_named vs) pid
    parts) in
    ap (λ (x : NackWord). x ∷ ws) (same_words w v pid r.blp)
    ∙ ap (λ (l : List NackWord). v ∷ l)
    (packed_once ws vs fit.1 fit'.1 (packed_behind w ws packed) (packed_behind v vs packed') r.rest)
