-- One lane at a time.
use Rattle.std.proofs.Common.{◌≡◌, ℕ, ◌+◌, ◌-◌, ◌/◌, ◌%◌, ◌<◌, ◌≤◌, List, [], ◌∷◌, map, length, arith, sym, ap, ◌∙◌}
use Rattle.std.proofs.Common.{subst, pos, Fits, w8, w16, w32}
use lib.Lanes.{Each1, zip2}
use lib.Ieee.{Float, binary32, of_int, to_bits}
use borrow.Rule.Simd.Lanes.{Asks1, act1, act2}
use borrow.Table.Row.{s_int, s_float}
use mir.Syntax.{cast, signed, unsigned, int_to_float, float_to_bits, wrap_sub, shr}
use lib.Ieee.{is_nan, in_float}
use mir.Val.{to_z}
use Rattle.std.proofs.Common.{ℤ, T, not, le→leb, get_or, replicate}
use Rattle.std.proofs.lemmas.Int.{to_z_pos}
use Rattle.std.proofs.lemmas.List.{get_or-map, length-map}
use Rattle.std.proofs.lemmas.Simd.{map-map, zip2_splat, Each1-get_or}
use Rattle.sample_codecs.specs.inner.Places.{IsPlace}
use Rattle.sample_codecs.proofs.Floating.{Kept, kept_of, is_number}

abbrev pub InRange : ℕ → Type 0
InRange b = (128 ≤ b) × (b < 32768)

abbrev pub wide : ℕ → ℕ
wide = act1 (cast unsigned signed w32) (s_int w16) (s_int w32)

abbrev pub floating : ℕ → Float
floating = act1 (int_to_float signed binary32) (s_int w32) (s_float binary32)

abbrev pub bits : Float → ℕ
bits = act1 float_to_bits (s_float binary32) (s_int w32)

abbrev pub shifted : ℕ → ℕ → ℕ
shifted = act2 (shr unsigned) (s_int w32) (s_int w32) (s_int w32)

abbrev pub less : ℕ → ℕ → ℕ
less = act2 wrap_sub (s_int w32) (s_int w32) (s_int w32)

abbrev pub narrow : ℕ → ℕ
narrow = act1 (cast unsigned unsigned w8) (s_int w32) (s_int w8)

small : (b : ℕ) → b < 32768 → to_z w32 b ≡ pos b
small b h = to_z_pos w32 b (omega (arith, h))

floating_is : (b : ℕ) → b < 32768 → floating (wide b) ≡ of_int binary32 (pos b)
floating_is b h = ap (of_int binary32) (small b h)

-- what a lane becomes
abbrev pub lane : ℕ → ℕ
lane b = less (shifted (bits (floating (wide b))) 19) 2144

bits_of : (b : ℕ) → b < 32768 → bits (floating (wide b)) ≡ to_bits binary32 (of_int binary32 (pos b))
bits_of b h = ap (to_bits binary32) (floating_is b h)

lane_is : (b : ℕ) → InRange b → lane b ≡ to_bits binary32 (of_int binary32 (pos b)) / 524288 - 2144
lane_is b h =
    let kept : Kept (to_bits binary32 (of_int binary32 (pos b))) b = kept_of b h.0 h.1 in
    ap (λ (x : ℕ). less (shifted x 19) 2144) (bits_of b h.1)
    ∙ less_is (to_bits binary32 (of_int binary32 (pos b)) / 524288) kept.least kept.most
  where
    less_is : (k : ℕ) → 2144 ≤ k → k < 65536 → (k + 4294965152) % 4294967296 ≡ k - 2144
    less_is k low high = omega (arith, low, high)

pub lane_place : (b : ℕ) → InRange b → IsPlace (lane b) b
lane_place b h = subst (λ (p : ℕ). IsPlace p b) (sym (lane_is b h)) ((kept_of b h.0 h.1).place)

each_map : {A : Type 0} (P : A → Type 0) (g : ℕ → A) → ((b : ℕ) → InRange b → P (g b)) → (xs : List ℕ)
    → Each1 InRange xs → Each1 P (map g xs)
each_map P g is [] h = tt
each_map P g is (x ∷ xs) h = (is x h.0, each_map P g is xs h.1)

within : (b : ℕ) → b < 32768 → T (in_float binary32 (pos b))
unfolding in_float
within b h = le→leb b 16777216 (omega (arith, h))

pub floats_asked : (xs : List ℕ) → Each1 InRange xs
    → Each1 (Asks1 (int_to_float signed binary32) (s_int w32)) (map wide xs)
floats_asked xs h = each_map (Asks1 (int_to_float signed binary32) (s_int w32)) wide asked xs h
  where
    asked : (b : ℕ) → InRange b → Asks1 (int_to_float signed binary32) (s_int w32) (wide b)
    asked b h = subst (λ (z : ℤ). T (in_float binary32 z)) (sym (small b h.1)) (within b h.1)

pub bits_asked : (xs : List ℕ) → Each1 InRange xs
    → Each1 (Asks1 float_to_bits (s_float binary32)) (map floating (map wide xs))
bits_asked xs h =
    subst (Each1 (Asks1 float_to_bits (s_float binary32))) (sym (map-map floating wide xs))
    (each_map (Asks1 float_to_bits (s_float binary32)) (λ b. floating (wide b)) asked xs h)
  where
    asked : (b : ℕ) → InRange b → T (not (is_nan (floating (wide b))))
    asked b h = subst (λ (x : Float). T (not (is_nan x))) (sym (floating_is b h.1)) (is_number b h.1)

pub all_are : (xs : List ℕ) → length xs ≡ 16
    → zip2 less (zip2 shifted (map bits (map floating (map wide xs))) (replicate 16 19)) (replicate 16 2144)
    ≡ map lane xs
all_are xs long =
    let maps : map bits (map floating (map wide xs)) ≡ map (λ b. bits (floating (wide b))) xs =
    ap (map bits) (map-map floating wide xs) ∙ map-map bits (λ b. floating (wide b)) xs in
    let first : zip2 shifted (map (λ b. bits (floating (wide b))) xs) (replicate 16 19)
    ≡ map (λ b. shifted (bits (floating (wide b))) 19) xs =
    zip2_splat shifted (map (λ b. bits (floating (wide b))) xs) 16 19
    (length-map xs (λ b. bits (floating (wide b))) ∙ long)
    ∙ map-map (λ x. shifted x 19) (λ b. bits (floating (wide b))) xs in
    ap (λ ys. zip2 less (zip2 shifted ys (replicate 16 19)) (replicate 16 2144)) maps
    ∙ ap (λ ys. zip2 less ys (replicate 16 2144)) first
    ∙ zip2_splat less (map (λ b. shifted (bits (floating (wide b))) 19) xs) 16 2144
    (length-map xs (λ b. shifted (bits (floating (wide b))) 19) ∙ long)
    ∙ map-map (λ x. less x 2144) (λ b. shifted (bits (floating (wide b))) 19) xs

pub narrow_asked : (xs : List ℕ) → length xs ≡ 16 → Each1 InRange xs
    → Each1 (Asks1 (cast unsigned unsigned w8) (s_int w32))
    (zip2 less (zip2 shifted (map bits (map floating (map wide xs))) (replicate 16 19)) (replicate 16 2144))
narrow_asked xs long h =
    subst (Each1 (Asks1 (cast unsigned unsigned w8) (s_int w32))) (sym (all_are xs long))
    (each_map (Asks1 (cast unsigned unsigned w8) (s_int w32)) lane asked xs h)
  where
    asked : (b : ℕ) → InRange b → Fits w8 (lane b)
    asked b h = record { fits = omega (arith, (lane_place b h).fits) }

pub places_are : (xs : List ℕ) → length xs ≡ 16 → Each1 InRange xs → (i : ℕ) → i < 16
    → IsPlace
    (get_or
    (map narrow
    (zip2 less (zip2 shifted (map bits (map floating (map wide xs))) (replicate 16 19)) (replicate 16 2144)))
    i 0)
    (get_or xs i 0)
places_are xs long h i lt =
    let within : i < length xs = omega (arith, lt, long) in
    let all : map narrow
    (zip2 less (zip2 shifted (map bits (map floating (map wide xs))) (replicate 16 19)) (replicate 16 2144))
    ≡ map lane xs =
    ap (map narrow) (all_are xs long) ∙ map-map narrow lane xs in
    subst (λ (ys : List ℕ). IsPlace (get_or ys i 0) (get_or xs i 0)) (sym all)
    (subst (λ (p : ℕ). IsPlace p (get_or xs i 0)) (sym (get_or-map lane xs i 0 0 within))
    (lane_place (get_or xs i 0) (Each1-get_or InRange xs i 0 within h)))
