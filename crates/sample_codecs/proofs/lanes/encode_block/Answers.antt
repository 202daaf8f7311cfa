use Rattle.std.proofs.Common.{rules, arith, ◌≡◌, length, ◌+◌, ◌<◌, ◌++◌, ◌∷◌, [], ℤ, ℕ, add_assoc, slice_index_or}
use Rattle.std.proofs.Common.{slice_set, take, pos, subst, sym}
use Rattle.std.proofs.lemmas.List.{take_more, take_more_set}
use Rattle.std.specs.List.{AllZip}
use Rattle.sample_codecs.specs.MuLaw.{IsCode}
use Rattle.sample_codecs.proofs.Zipped.{AllZip-more}
use Rattle.sample_codecs.proofs.lanes.encode_block.Goals as goal

pub loop-i-preserved : goal.loop-i-preserved
loop-i-preserved c =
    let samples = c.args.samples.now in
    let i = c.args.start + c.loop-i.i in
    let sample : ℤ = slice_index_or samples i (pos 0) in
    let octet : ℕ = slice_index_or c.codes_of-codes.result c.loop-i.i 0 in
    let long : length (slice_set c.loop-i.out i octet) ≡ length samples = search rules in
    let there : i < length samples = omega arith in
    let within : i < length c.loop-i.out = omega arith in
    let one : IsCode sample octet = c.codes_of-codes.ensures c.loop-i.i c.loop-i-test.true in (
      long,
      λ before.
          let held : AllZip IsCode (take i samples) (take i c.loop-i.out) = c.loop-i.invariant.1 before in
          subst (λ (n : ℕ). AllZip IsCode (take n samples) (take n (slice_set c.loop-i.out i octet)))
          (add_assoc c.args.start c.loop-i.i 1)
          (subst (λ codes. AllZip IsCode (take (i + 1) samples) codes) (sym (take_more_set c.loop-i.out i octet within))
          (subst (λ xs. AllZip IsCode xs (take i c.loop-i.out ++ octet ∷ [])) (sym (take_more samples i (pos 0) there))
          (AllZip-more IsCode _ _ sample octet held one))),
    )
