use Rattle.std.proofs.Common.{rules, arith, ◌≡◌, length, ◌+◌, ◌<◌, ◌++◌, ◌∷◌, [], ℤ, slice_index_or, slice_set, take}
use Rattle.std.proofs.Common.{pos, subst, sym, to_z, of_z}
use mir.Syntax.{w16}
use mir.Val.{SFits}
use Rattle.std.proofs.lemmas.Int.{to_z-of_z}
use Rattle.std.proofs.lemmas.List.{take_more, take_more_set}
use Rattle.std.specs.List.{AllZip}
use Rattle.sample_codecs.specs.MuLaw.{IsCode}
use Rattle.sample_codecs.proofs.Zipped.{AllZip-more}
use Rattle.sample_codecs.proofs.Codes.{codes_of_all}
use Rattle.sample_codecs.proofs.slices.encode_pcmu.Goals as goal

pub loop-i-preserved : goal.loop-i-preserved
loop-i-preserved c =
    let samples = c.args.samples.now in
    let i = c.loop-i.i in
    let sample : ℤ = slice_index_or samples i (pos 0) in
    let long : length (slice_set c.loop-i.out i c.encode_sample.result) ≡ length samples = search rules in
    let held : AllZip IsCode (take i samples) (take i c.loop-i.out) = c.loop-i.invariant.1 in
    let there : i < length samples = search rules in
    let within : i < length c.loop-i.out = search rules in
    let fits : SFits w16 sample = search rules in
    let is : to_z w16 (of_z w16 sample) ≡ sample = grind (arith, to_z-of_z) in
    let one : IsCode sample c.encode_sample.result =
    subst (λ (z : ℤ). IsCode z c.encode_sample.result) is c.encode_sample.ensures in (
      long,
      subst (λ codes. AllZip IsCode (take (i + 1) samples) codes)
          (sym (take_more_set c.loop-i.out i c.encode_sample.result within))
          (subst (λ xs. AllZip IsCode xs (take i c.loop-i.out ++ c.encode_sample.result ∷ []))
          (sym (take_more samples i (pos 0) there)) (AllZip-more IsCode _ _ sample c.encode_sample.result held one)),
    )

pub returns-clause-codes : goal.returns-clause-codes
returns-clause-codes c =
    codes_of_all c.args.samples.now c.loop-i.out c.loop-i.i c.loop-i.invariant.0 (omega arith) c.loop-i.invariant.1
