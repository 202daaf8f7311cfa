use Rattle.std.proofs.Common.{rules, arith, ◌≡◌, ◌+◌, ◌*◌, ◌<◌, ℤ, slice_index_or, length, ap, sym, subst, ◌∙◌, to_z}
use Rattle.std.proofs.Common.{of_z, FitsSigned}
use mir.Syntax.{w16}
use Rattle.std.proofs.lemmas.Int.{to_z-of_z}
use Rattle.std.proofs.lemmas.List.{take_all}
use Rattle.std.proofs.lemmas.Grind.{get_or_default_zero}
use Rattle.sample_codecs.specs.L16.{sample_of, samples_of, octets_of}
use Rattle.sample_codecs.proofs.Pairs.{decoded_more, written_back}
use Rattle.sample_codecs.proofs.l16.decode_l16.Goals as goal

pub loop-i-preserved : goal.loop-i-preserved
loop-i-preserved c =
    let octets = c.args.octets.now in
    let i = c.loop-i.i in
    let z : ℤ = to_z w16 (of_z w16 c.from_be_bytes.result) in
    let fits : FitsSigned w16 c.from_be_bytes.result = search rules in
    let back : z ≡ c.from_be_bytes.result = to_z-of_z w16 c.from_be_bytes.result fits in
    let is : z ≡ sample_of (slice_index_or octets (2 * i) 0) (slice_index_or octets (2 * i + 1) 0) =
    back ∙ c.from_be_bytes.ensures ∙ ap (to_z w16) (omega arith) in
    let there : 2 * i + 1 < length octets = omega (arith, c.loop-i-test.true, c.requires) in
    let within : i < length c.loop-i.samples = omega (arith, c.loop-i-test.true, c.loop-i.auto.samples) in
    (search rules, decoded_more octets c.loop-i.samples i z there within is c.loop-i.invariant.1)

pub returns-clause-back : goal.returns-clause-back
returns-clause-back c =
    let octets = c.args.octets.now in
    let held : c.loop-i.samples ≡ samples_of octets =
    sym (take_all c.loop-i.i c.loop-i.samples (omega (arith, c.loop-i-test.false, c.loop-i.auto.samples)))
    ∙ c.loop-i.invariant.1
    ∙ ap samples_of (take_all (2 * c.loop-i.i) octets (omega (arith, c.loop-i-test.false, c.requires))) in
    ap octets_of held
    ∙ written_back octets (length c.args.samples.now) c.requires (λ k d within.
    subst (λ octet. octet < 256) (sym (get_or_default_zero octets k d within)) (c.type_inv.octets k).fits)
