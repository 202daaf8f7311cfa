use Rattle.std.proofs.Common.{◌+◌, take, drop, get_or, Ok, Err}
use Rattle.hex.specs.Hex.{encode_lower}
use Rattle.desk_text.specs.Numbers.{pair_octets, pairs_octets}
use Rattle.desk_text.specs.inner.Growing.{buffer_of}
use Rattle.desk_text.proofs.GrowLemmas.{grows_none, grows_then, grows_stop, grows_same, grows_err, encode_none}
use Rattle.desk_text.proofs.GrowLemmas.{flat_more, flat_rest}
use Rattle.desk_text.proofs.appending.append_pairs.Goals as goal

pub loop-number-init : goal.loop-number-init
loop-number-init g c =
    grows_same (buffer_of c.args.out.now) (buffer_of c.args.out.now) _ _ (Ok tt) encode_none
    (grows_none (buffer_of c.args.out.now))

pub returns-in_err-append_pair : goal.returns-in_err-append_pair
returns-in_err-append_pair g c =
    let xs = c.args.numbers.now in
    let k = c.loop-number.number-index in
    let e = c.in_err-append_pair.field-0.0 in
    let old = buffer_of c.args.out.now in
    let new = buffer_of c.append_pair.new.out in
    let one = encode_lower (pair_octets (get_or xs k 0)) in
    grows_err old new _ _ e c.from_residual.ensures.0
    (grows_same old new _ _ (Err e) (flat_rest pair_octets xs (k + 1))
    (grows_stop old new (encode_lower (pairs_octets (take (k + 1) xs))) (encode_lower (pairs_octets (drop (k + 1) xs)))
    e
    (grows_same old new _ _ (Err e) (flat_more pair_octets xs k 0 c.loop-number-test.true) (grows_then old
    (buffer_of c.loop-number.out) new (encode_lower (pairs_octets (take k xs))) one (Err e) c.loop-number.invariant
    c.in_err-append_pair.ensures))))

pub loop-number-preserved : goal.loop-number-preserved
loop-number-preserved g c =
    let xs = c.args.numbers.now in
    let k = c.loop-number.number-index in
    let old = buffer_of c.args.out.now in
    let new = buffer_of c.append_pair.new.out in
    let one = encode_lower (pair_octets (get_or xs k 0)) in
    grows_same old new _ _ (Ok tt) (flat_more pair_octets xs k 0 c.loop-number-test.true) (grows_then old
    (buffer_of c.loop-number.out) new (encode_lower (pairs_octets (take k xs))) one (Ok tt) c.loop-number.invariant
    c.in_ok-append_pair.ensures)
