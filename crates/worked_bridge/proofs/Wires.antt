-- How a script without datagrams is read.
use Rattle.std.proofs.Common.{List, ℕ, []}
use Rattle.ingress.specs.Readings.{too_long}
use Rattle.script_text.specs.Decodings.{Decoding, DecodesLines, InEachDecoding}

-- any way will do
pub no_wire : Decoding
no_wire = record { reading = λ octets. too_long; words = λ numbers. [] }

-- what follows in each decoding follows in this one
pub on_no_wire : {P : Type 0} {lines : List (List ℕ)} {IsSo : Decoding → Type 0} → (P → InEachDecoding lines IsSo)
    → DecodesLines no_wire lines → P → IsSo no_wire
on_no_wire follows heard p = (follows p).each no_wire heard
