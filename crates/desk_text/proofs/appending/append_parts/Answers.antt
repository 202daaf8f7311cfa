use Rattle.std.proofs.Common.{sym, Err}
use Rattle.hex.specs.Hex.{encode_lower}
use Rattle.desk_text.specs.inner.Growing.{buffer_of}
use Rattle.desk_text.proofs.GrowLemmas.{grows_then, grows_stop, grows_same, grows_err, encode_append}
use Rattle.desk_text.proofs.appending.append_parts.Goals as goal

pub returns-in_err-append_hex : goal.returns-in_err-append_hex
returns-in_err-append_hex g c =
    let first = c.args.first.now in
    let rest = c.args.rest.now in
    let old = buffer_of c.args.out.now in
    let new = buffer_of c.append_hex.new.out in
    let e = c.in_err-append_hex.field-0.0 in
    grows_err old new _ _ e c.from_residual.ensures.0
    (grows_same old new _ _ (Err e) (sym (encode_append first rest))
    (grows_stop old new (encode_lower first) (encode_lower rest) e c.in_err-append_hex.ensures))

pub returns : goal.returns
returns g c =
    let first = c.args.first.now in
    let rest = c.args.rest.now in
    let old = buffer_of c.args.out.now in
    let new = buffer_of c.append_hex-2.new.out in
    grows_same old new _ _ c.append_hex-2.result (sym (encode_append first rest))
    (grows_then old (buffer_of c.append_hex.new.out) new (encode_lower first) (encode_lower rest) c.append_hex-2.result
    c.in_ok-append_hex.ensures c.append_hex-2.ensures)
