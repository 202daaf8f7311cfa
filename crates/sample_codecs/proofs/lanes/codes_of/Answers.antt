use Rattle.std.proofs.Common.{rules, arith, ◌≡◌, ◌≢◌, ◌+◌, ◌<◌, length, ℤ, ℕ, pos, slice_index_or, slice_set, subst}
use Rattle.std.proofs.Common.{sym, inl, inr, to_z, of_z, get_or-set_same, get_or-set_other}
use mir.Syntax.{w16}
use mir.Val.{SFits}
use Rattle.std.proofs.lemmas.Int.{to_z-of_z}
use Rattle.std.proofs.lemmas.Bool.{cases_lt}
use Rattle.sample_codecs.specs.MuLaw.{IsCode}
use Rattle.sample_codecs.proofs.lanes.codes_of.Goals as goal

pub loop-i-preserved : goal.loop-i-preserved
loop-i-preserved c =
    let i = c.loop-i.i in
    let sample : ℤ = slice_index_or c.args.samples.now (c.args.start + i) (pos 0) in
    let long : length (slice_set c.loop-i.codes i c.code_at.result) ≡ 16 = search rules in
    let within : i < length c.loop-i.codes = omega (arith, c.loop-i.invariant.0, c.loop-i-test.true) in
    let fits : SFits w16 sample = search rules in
    let is : to_z w16 (of_z w16 sample) ≡ sample = grind (arith, to_z-of_z) in
    let one : IsCode sample c.code_at.result = subst (λ (z : ℤ). IsCode z c.code_at.result) is c.code_at.ensures in
    let here : slice_index_or (slice_set c.loop-i.codes i c.code_at.result) i 0 ≡ c.code_at.result =
    get_or-set_same c.loop-i.codes i c.code_at.result 0 within in (
      long,
      λ k lt. elim (cases_lt k i) [
        | inl less ↦
            let other : k ≢ i = λ e. absurd (omega (arith, e, less)) in
            subst (λ (o : ℕ). IsCode (slice_index_or c.args.samples.now (c.args.start + k) (pos 0)) o)
            (sym (get_or-set_other c.loop-i.codes i k c.code_at.result 0 other)) (c.loop-i.invariant.1 k less)
        | inr more ↦
            let e : i ≡ k = omega (arith, lt, more) in
            subst
            (λ (j : ℕ).
            IsCode (slice_index_or c.args.samples.now (c.args.start + j) (pos 0))
            (slice_index_or (slice_set c.loop-i.codes i c.code_at.result) j 0))
            e
            (subst (λ (o : ℕ). IsCode sample o) (sym here) one)
      ],
    )
