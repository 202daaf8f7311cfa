use Rattle.std.proofs.Common.{◌∷◌, [], ◌+◌, ◌/◌, ◌%◌, take, drop, get_or, Ok, Err}
use Rattle.hex.specs.Hex.{encode_lower, lower_digits}
use Rattle.desk_text.specs.inner.Growing.{buffer_of}
use Rattle.desk_text.proofs.GrowLemmas.{grows_none, grows_then, grows_stop, grows_same, grows_err, encode_none}
use Rattle.desk_text.proofs.GrowLemmas.{encode_more, encode_rest}
use Rattle.desk_text.proofs.appending.append_hex.Goals as goal

pub loop-octet-init : goal.loop-octet-init
loop-octet-init g c =
    grows_same (buffer_of c.args.out.now) (buffer_of c.args.out.now) _ _ (Ok tt) encode_none
    (grows_none (buffer_of c.args.out.now))

pub returns-in_err-append : goal.returns-in_err-append
returns-in_err-append g c =
    let xs = c.args.octets.now in
    let k = c.loop-octet.octet-index in
    let e = c.in_err-append.field-0.0 in
    let old = buffer_of c.args.out.now in
    let new = buffer_of c.append.new.out in
    let pair = get_or lower_digits (get_or xs k 0 / 16) 0 ∷ get_or lower_digits (get_or xs k 0 % 16) 0 ∷ [] in
    grows_err old new _ _ e c.from_residual.ensures.0
    (grows_same old new _ _ (Err e) (encode_rest xs (k + 1))
    (grows_stop old new (encode_lower (take (k + 1) xs)) (encode_lower (drop (k + 1) xs)) e
    (grows_same old new _ _ (Err e) (encode_more xs k c.loop-octet-test.true) (grows_then old
    (buffer_of c.loop-octet.out) new (encode_lower (take k xs)) pair (Err e) c.loop-octet.invariant
    c.in_err-append.ensures))))

pub loop-octet-preserved : goal.loop-octet-preserved
loop-octet-preserved g c =
    let xs = c.args.octets.now in
    let k = c.loop-octet.octet-index in
    let old = buffer_of c.args.out.now in
    let new = buffer_of c.append.new.out in
    let pair = get_or lower_digits (get_or xs k 0 / 16) 0 ∷ get_or lower_digits (get_or xs k 0 % 16) 0 ∷ [] in
    grows_same old new _ _ (Ok tt) (encode_more xs k c.loop-octet-test.true) (grows_then old
    (buffer_of c.loop-octet.out) new (encode_lower (take k xs)) pair (Ok tt) c.loop-octet.invariant
    c.in_ok-append.ensures)
