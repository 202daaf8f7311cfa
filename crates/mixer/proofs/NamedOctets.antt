-- Sources in network order, and parts of them.
use Rattle.std.proofs.Common.{◌≡◌, ℕ, zero, suc, ◌+◌, ◌-◌, ◌*◌, List, [], ◌∷◌, ◌++◌, length, take, drop, refl, sym, ap}
use Rattle.std.proofs.Common.{◌∙◌, arith, append_assoc, append-nil}
use Rattle.std.specs.Prelude.{min, ◌/◌}
use Rattle.std.proofs.Math.Seq.{take-append_seam, drop-append_seam}
use Rattle.std.proofs.lemmas.List.{length-append, length-take-le}
use Rattle.std.proofs.lemmas.List.Concat.{flat_map-cons}
use Rattle.std.specs.Int.{w32, to_be_bytes}
use Rattle.rtp_codec.specs.Packet.{number_octets}

-- the octets of one more source
pub octets-cons : (n : ℕ) (ns : List ℕ) → number_octets (n ∷ ns) ≡ to_be_bytes w32 n ++ number_octets ns
octets-cons n ns = flat_map-cons (λ n. to_be_bytes w32 n) n ns

-- each source has four octets
pub octets-length : (ns : List ℕ) → length (number_octets ns) ≡ 4 * length ns
octets-length [] = refl
octets-length (n ∷ ns) = ap length (octets-cons n ns) ∙ omega (arith, octets-length ns)

pub octets-append : (ms ns : List ℕ) → number_octets (ms ++ ns) ≡ number_octets ms ++ number_octets ns
octets-append [] ns = refl
octets-append (m ∷ ms) ns =
    octets-cons m (ms ++ ns) ∙ ap (λ xs. to_be_bytes w32 m ++ xs) (octets-append ms ns)
    ∙ sym (append_assoc (to_be_bytes w32 m) (number_octets ms) (number_octets ns))
    ∙ ap (λ xs. xs ++ number_octets ns) (sym (octets-cons m ms))

abbrev none : List ℕ
none = []

take-none : (n : ℕ) → take n none ≡ none
take-none zero = refl
take-none (suc n) = refl

-- the octets of the first sources are the first octets
pub octets-take : (k : ℕ) (ns : List ℕ) → take (4 * k) (number_octets ns) ≡ number_octets (take k ns)
octets-take zero ns = refl
octets-take (suc k) [] = take-none (4 * suc k)
octets-take (suc k) (n ∷ ns) =
    let four : 4 * suc k ≡ suc (suc (suc (suc (4 * k)))) = omega arith in
    ap (take (4 * suc k)) (octets-cons n ns) ∙ ap (λ j. take j (to_be_bytes w32 n ++ number_octets ns)) four
    ∙ ap (λ xs. to_be_bytes w32 n ++ xs) (octets-take k ns) ∙ sym (octets-cons n (take k ns))

-- no more than there are
take-short : (n s : ℕ) (xs : List ℕ) → s ≡ min (length xs) n → take n xs ≡ take s xs
take-short zero s xs is = let none : s ≡ 0 = omega (arith, is) in sym (ap (λ k. take k xs) none)
take-short (suc n) s [] is = sym (take-none s)
take-short (suc n) s (x ∷ xs) is =
    let one : s ≡ suc (s - 1) = omega (arith, is) in
    ap (λ ys. x ∷ ys) (take-short n (s - 1) xs (omega (arith, is))) ∙ ap (λ k. take k (x ∷ xs)) (sym one)

-- the first of two lists
take-two : (n f s : ℕ) (xs ys : List ℕ) → f ≡ min (length xs) n → s ≡ min (length ys) (n - f)
    → take n (xs ++ ys) ≡ take f xs ++ take s ys
take-two zero f s xs ys front back =
    let no_front : f ≡ 0 = omega (arith, front) in
    let no_back : s ≡ 0 = omega (arith, back) in
    sym (ap (λ k. take k xs ++ take s ys) no_front ∙ ap (λ k. take k ys) no_back)
take-two (suc n) f s [] ys front back =
    take-short (suc n) s ys (omega (arith, front, back)) ∙ ap (λ zs. zs ++ take s ys) (sym (take-none f))
take-two (suc n) f s (x ∷ xs) ys front back =
    let one : f ≡ suc (f - 1) = omega (arith, front) in
    ap (λ zs. x ∷ zs) (take-two n (f - 1) s xs ys (omega (arith, front)) (omega (arith, front, back)))
    ∙ ap (λ k. take k (x ∷ xs) ++ take s ys) (sym one)

-- the first 15 sources, without those in the middle, in network order
pub record AreNamed (front own back : List ℕ) (first second : List ℕ) (many : ℕ) : Type 0 where
  pub octets : first ++ second ≡ number_octets (take 15 (front ++ back))
  pub count : length (take 15 (front ++ back)) ≡ many

pub parts_named : (front own back : List ℕ) (octets before rest behind : List ℕ) (first second : ℕ)
    → octets ≡ number_octets (front ++ (own ++ back))
    → before ≡ take (4 * length front) octets → rest ≡ drop (4 * length front) octets
    → behind ≡ drop (4 * length own) rest
    → first ≡ min (length front) 15 → second ≡ min (length behind / 4) (15 - first)
    → AreNamed front own back (take (4 * first) before) (take (4 * second) behind) (first + second)
parts_named front own back octets before rest behind first second whole is_before is_rest is_behind is_first is_second =
    let of = number_octets front in
    let oo = number_octets own in
    let ob = number_octets back in
    let all : octets ≡ of ++ (oo ++ ob) =
    whole ∙ octets-append front (own ++ back) ∙ ap (λ xs. of ++ xs) (octets-append own back) in
    let b : before ≡ of =
    is_before
    ∙ ap (λ k. take k octets) (sym (octets-length front))
    ∙ ap (take (length of)) all
    ∙ take-append_seam of (oo ++ ob) in
    let r : rest ≡ oo ++ ob =
    is_rest
    ∙ ap (λ k. drop k octets) (sym (octets-length front))
    ∙ ap (drop (length of)) all
    ∙ drop-append_seam of (oo ++ ob) in
    let h : behind ≡ ob =
    is_behind ∙ ap (λ k. drop k rest) (sym (octets-length own)) ∙ ap (drop (length oo)) r ∙ drop-append_seam oo ob in
    let long : length behind / 4 ≡ length back = omega (arith, ap length h, octets-length back) in
    let second_is : second ≡ min (length back) (15 - first) = is_second ∙ ap (λ k. min k (15 - first)) long in
    let two : take 15 (front ++ back) ≡ take first front ++ take second back =
    take-two 15 first second front back is_first second_is in
    record {
      octets =
          ap (λ xs. take (4 * first) xs ++ take (4 * second) behind) b
          ∙ ap (λ xs. take (4 * first) of ++ take (4 * second) xs) h
          ∙ ap (λ xs. xs ++ take (4 * second) ob) (octets-take first front)
          ∙ ap (λ xs. number_octets (take first front) ++ xs) (octets-take second back)
          ∙ sym (octets-append (take first front) (take second back)) ∙ ap number_octets (sym two);
      count = ap length two ∙ length-append (take first front) (take second back)
          ∙ ap (λ k. k + length (take second back)) (length-take-le first front (omega (arith, is_first)))
          ∙ ap (λ k. first + k) (length-take-le second back (omega (arith, second_is)));
    }

-- the octets of one more source at the end
pub octets-push : (ns : List ℕ) (n : ℕ) → number_octets (ns ++ n ∷ []) ≡ number_octets ns ++ to_be_bytes w32 n
octets-push ns n =
    octets-append ns (n ∷ []) ∙ ap (λ xs. number_octets ns ++ xs) (octets-cons n [] ∙ append-nil (to_be_bytes w32 n))
