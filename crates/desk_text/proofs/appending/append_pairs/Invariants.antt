use Rattle.std.proofs.Common.{take, Ok}
use Rattle.hex.specs.Hex.{encode_lower}
use Rattle.desk_text.specs.Numbers.{pairs_octets}
use Rattle.desk_text.specs.inner.Growing.{buffer_of, Grows}
use Rattle.desk_text.proofs.appending.append_pairs.Given as goal

-- the numbers so far are out
abbrev pub invariant-loop-number : goal.invariant-loop-number
invariant-loop-number g l =
    Grows (buffer_of l.fn.out) (buffer_of l.out) (encode_lower (pairs_octets (take l.number-index l.numbers))) (Ok tt)
