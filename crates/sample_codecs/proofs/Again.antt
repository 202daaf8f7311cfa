-- What an octet decodes to is held by the octet.
use Rattle.std.proofs.Common.{◌≡◌, ℕ, ℤ, pos, negsuc, ◌+◌, ◌-◌, ◌*◌, ◌^◌, ◌<◌, ◌≤◌, ◌<ℤ◌, ◌≢◌, Bool, true, ◌&&◌, ◌==◌}
use Rattle.std.proofs.Common.{nat_le, nat_lt, refl, arith, inl, inr}
use Rattle.std.specs.Prelude.{◌||◌, unsigned_abs}
use Rattle.std.specs.Ordering.{int_eq}
use Rattle.std.proofs.lemmas.Bool.{and_parts, or_cases, leb-true, ltb-true, eqb-true}
use Rattle.std.proofs.lemmas.Bool.Decides.{Decides-int_eq}
use Rattle.std.proofs.lemmas.Int.{ints}
use Rattle.sample_codecs.specs.MuLaw.{turned, segment, step, biased, decoded, Holds}
use Rattle.sample_codecs.proofs.Decoding.{all_below_at}

abbrev inside : ℕ → Bool
inside code =
    nat_le ((128 + 8 * step code) * 2 ^ segment code) (biased (decoded code))
    && nat_lt (biased (decoded code)) ((136 + 8 * step code) * 2 ^ segment code)

abbrev positive : ℕ → Bool
positive code = nat_le 128 (turned code) || int_eq (decoded code) (pos (unsigned_abs (decoded code)))

abbrev negative : ℕ → Bool
negative code =
    nat_lt (turned code) 128 || (code == 127) || int_eq (decoded code) (negsuc (unsigned_abs (decoded code) - 1))

inside_at : (code : ℕ) → code < 256 → inside code ≡ true
inside_at code lt = all_below_at inside 256 code refl lt

positive_at : (code : ℕ) → code < 256 → positive code ≡ true
positive_at code lt = all_below_at positive 256 code refl lt

negative_at : (code : ℕ) → code < 256 → negative code ≡ true
negative_at code lt = all_below_at negative 256 code refl lt

pub holds_decoded : (code : ℕ) → code < 256 → code ≢ 127 → Holds (decoded code) code
holds_decoded code lt other =
    let parts =
    and_parts (nat_le ((128 + 8 * step code) * 2 ^ segment code) (biased (decoded code)))
    (nat_lt (biased (decoded code)) ((136 + 8 * step code) * 2 ^ segment code)) (inside_at code lt) in
    record {
      octet = lt;
      low = leb-true _ _ parts.0;
      high = ltb-true _ _ parts.1;
      sign = (under, high);
    }
  where
    under : 128 ≤ turned code → decoded code <ℤ pos 0
    under h =
        elim (or_cases (nat_lt (turned code) 128 || (code == 127))
        (int_eq (decoded code) (negsuc (unsigned_abs (decoded code) - 1))) (negative_at code lt)) [
          | inl first ↦ elim (or_cases (nat_lt (turned code) 128) (code == 127) first) [
            | inl t ↦ absurd (omega (arith, h, ltb-true (turned code) 128 t))
            | inr t ↦ absurd (other (eqb-true code 127 t))
          ]
          | inr t ↦
              let e : decoded code ≡ negsuc (unsigned_abs (decoded code) - 1) = (Decides-int_eq _ _).0 t in
              by (decoded code) (unsigned_abs (decoded code) - 1) e
        ]
      where
        by : (z : ℤ) (n : ℕ) → z ≡ negsuc n → z <ℤ pos 0
        by z n e = omega (arith, ints, e)

    high : decoded code <ℤ pos 0 → 128 ≤ turned code
    high h =
        elim (or_cases (nat_le 128 (turned code)) (int_eq (decoded code) (pos (unsigned_abs (decoded code))))
        (positive_at code lt)) [
          | inl t ↦ leb-true 128 (turned code) t
          | inr t ↦
              let e : decoded code ≡ pos (unsigned_abs (decoded code)) = (Decides-int_eq _ _).0 t in
              absurd (by (decoded code) (unsigned_abs (decoded code)) e h)
        ]
      where
        by : (z : ℤ) (n : ℕ) → z ≡ pos n → z <ℤ pos 0 → ⊥
        by z n e k = absurd (omega (arith, ints, e, k))

-- the negative zero decodes to what the positive one does
pub holds_zero : Holds (decoded 127) 255
holds_zero = holds_decoded 255 (omega arith) (λ e. absurd (omega (arith, e)))
