use Rattle.std.proofs.Common.{rules, ℤ, pos, ◌+◌, take, drop, get_or, Ok, Err, ap, of_z, to_z, ◌≡◌, FitsSigned}
use mir.Syntax.{w16}
use Rattle.std.proofs.lemmas.Int.{to_z-of_z}
use Rattle.hex.specs.Hex.{encode_lower}
use Rattle.sample_codecs.specs.L16.{octets_in, octets_of}
use Rattle.desk_text.specs.inner.Growing.{buffer_of}
use Rattle.desk_text.proofs.GrowLemmas.{grows_none, grows_then, grows_stop, grows_same, grows_err, encode_none}
use Rattle.desk_text.proofs.GrowLemmas.{flat_more, flat_rest}
use Rattle.desk_text.proofs.appending.append_samples.Goals as goal

pub loop-sample-init : goal.loop-sample-init
loop-sample-init g c =
    grows_same (buffer_of c.args.out.now) (buffer_of c.args.out.now) _ _ (Ok tt) encode_none
    (grows_none (buffer_of c.args.out.now))

pub returns-in_err-append_sample : goal.returns-in_err-append_sample
returns-in_err-append_sample g c =
    let xs = c.args.samples.now in
    let k = c.loop-sample.sample-index in
    let e = c.in_err-append_sample.field-0.0 in
    let old = buffer_of c.args.out.now in
    let new = buffer_of c.append_sample.new.out in
    let z : ℤ = get_or xs k (pos 0) in
    let fits : FitsSigned w16 z = search rules in
    let back = ap (λ (x : ℤ). encode_lower (octets_in x)) (to_z-of_z w16 z fits) in
    let one = encode_lower (octets_in z) in
    grows_err old new _ _ e c.from_residual.ensures.0
    (grows_same old new _ _ (Err e) (flat_rest octets_in xs (k + 1))
    (grows_stop old new (encode_lower (octets_of (take (k + 1) xs))) (encode_lower (octets_of (drop (k + 1) xs))) e
    (grows_same old new _ _ (Err e) (flat_more octets_in xs k (pos 0) c.loop-sample-test.true) (grows_then old
    (buffer_of c.loop-sample.out) new (encode_lower (octets_of (take k xs))) one (Err e) c.loop-sample.invariant
    (grows_same (buffer_of c.loop-sample.out) new _ _ (Err e) back c.in_err-append_sample.ensures)))))

pub loop-sample-preserved : goal.loop-sample-preserved
loop-sample-preserved g c =
    let xs = c.args.samples.now in
    let k = c.loop-sample.sample-index in
    let old = buffer_of c.args.out.now in
    let new = buffer_of c.append_sample.new.out in
    let z : ℤ = get_or xs k (pos 0) in
    let fits : FitsSigned w16 z = search rules in
    let back = ap (λ (x : ℤ). encode_lower (octets_in x)) (to_z-of_z w16 z fits) in
    let one = encode_lower (octets_in z) in
    grows_same old new _ _ (Ok tt) (flat_more octets_in xs k (pos 0) c.loop-sample-test.true) (grows_then old
    (buffer_of c.loop-sample.out) new (encode_lower (octets_of (take k xs))) one (Ok tt) c.loop-sample.invariant
    (grows_same (buffer_of c.loop-sample.out) new _ _ (Ok tt) back c.in_ok-append_sample.ensures))
