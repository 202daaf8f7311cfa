use Rattle.std.proofs.Common.{take, Ok}
use Rattle.hex.specs.Hex.{encode_lower}
use Rattle.desk_text.specs.inner.Growing.{buffer_of, Grows}
use Rattle.desk_text.proofs.appending.append_hex.Given as goal

-- the octets so far are out
abbrev pub invariant-loop-octet : goal.invariant-loop-octet
invariant-loop-octet g l =
    Grows (buffer_of l.fn.out) (buffer_of l.out) (encode_lower (take l.octet-index l.octets)) (Ok tt)
