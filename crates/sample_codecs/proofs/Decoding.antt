-- The table has what each octet decodes to.
use Rattle.std.proofs.Common.{◌≡◌, ℕ, zero, suc, ◌<◌, pos, Bool, true, ◌&&◌, slice_index_or, refl, arith, inl, inr}
use Rattle.std.proofs.lemmas.Bool.{and_parts, cases_lt}
use Rattle.std.proofs.lemmas.Bool.Decides.{Decides-int_eq}
use Rattle.std.specs.Ordering.{int_eq}
use Rattle.sample_codecs.specs.MuLaw.{decoded}
use Rattle.sample_codecs.specs.declared.table.TheConstants.{DECODED}

abbrev pub all_below : (ℕ → Bool) → ℕ → Bool
all_below p zero = true
all_below p (suc n) = p n && all_below p n

pub all_below_at : (p : ℕ → Bool) (n k : ℕ) → all_below p n ≡ true → k < n → p k ≡ true
all_below_at p zero k h lt = absurd (omega arith)
all_below_at p (suc n) k h lt =
    let parts = and_parts (p n) (all_below p n) h in
    elim (cases_lt k n) [
      | inl below ↦ all_below_at p n k parts.1 below
      | inr top ↦
          let e : k ≡ n = omega arith in
          rw e parts.0
    ]

pub table_decoded : (code : ℕ) → code < 256 → slice_index_or DECODED code (pos 0) ≡ decoded code
table_decoded code lt =
    (Decides-int_eq _ _).0 (all_below_at (λ k. int_eq (slice_index_or DECODED k (pos 0)) (decoded k)) 256 code refl lt)
