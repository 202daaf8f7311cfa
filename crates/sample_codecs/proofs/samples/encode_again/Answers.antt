use Rattle.std.proofs.Common.{rules, arith, ◌≡◌, ◌<◌, sym, subst, ℤ, ℕ, to_z, of_z}
use mir.Syntax.{w16}
use mir.Val.{SFits}
use Rattle.std.proofs.lemmas.Int.{to_z-of_z}
use Rattle.sample_codecs.specs.MuLaw.{decoded, Holds}
use Rattle.sample_codecs.proofs.Again.{holds_decoded, holds_zero}
use Rattle.sample_codecs.proofs.samples.encode_again.Goals as goal

pub returns-clause-same : goal.returns-clause-same
returns-clause-same c = λ other.
    let lt : c.args.code < 256 = search rules in
    let fits : SFits w16 c.decode_sample.result = search rules in
    let is : to_z w16 (of_z w16 c.decode_sample.result) ≡ decoded c.args.code = grind (arith, to_z-of_z) in
    sym (c.encode_sample.ensures.one c.args.code
    (subst (λ (z : ℤ). Holds z c.args.code) (sym is) (holds_decoded c.args.code lt other)))

pub returns-clause-zero : goal.returns-clause-zero
returns-clause-zero c = λ is.
    let fits : SFits w16 c.decode_sample.result = search rules in
    let value : to_z w16 (of_z w16 c.decode_sample.result) ≡ decoded c.args.code = grind (arith, to_z-of_z) in
    let zero : Holds (decoded c.args.code) 255 = subst (λ (code : ℕ). Holds (decoded code) 255) (sym is) holds_zero in
    sym (c.encode_sample.ensures.one 255 (subst (λ (z : ℤ). Holds z 255) (sym value) zero))
