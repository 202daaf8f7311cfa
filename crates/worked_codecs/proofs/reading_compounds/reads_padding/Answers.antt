use Rattle.std.proofs.Common.{ℕ, List, [], ◌∷◌, refl, arith, inr}
use Rattle.rtcp_codec.specs.Packet.{Receiver, IsPacket}
use Rattle.worked_codecs.specs.Compounds.{report_alone}
use Rattle.worked_codecs.proofs.reading_compounds.reads_padding.Goals as goal

abbrev padded : List ℕ
padded = 0xa0 ∷ 0xc9 ∷ 0 ∷ 2 ∷ 0 ∷ 0 ∷ 0 ∷ 9 ∷ 0xff ∷ 0xff ∷ 0xff ∷ 4 ∷ []

is_padded : IsPacket (Receiver 9 []) 4 padded
is_padded = record {
  words = 2;
  body = 0 ∷ 0 ∷ 0 ∷ 9 ∷ [];
  padding_octets = 0xff ∷ 0xff ∷ 0xff ∷ 4 ∷ [];
  parts = refl;
  size = refl;
  words_fit = omega arith;
  types = (omega arith, tt);
  counted = omega arith;
  lengths = tt;
  meaning = tt;
  is_body = ([], refl);
  is_padding = (0xff ∷ 0xff ∷ 0xff ∷ [], refl, refl);
  padding_words = refl;
}

pub returns : goal.returns
returns c = c.read_compound.ensures.only report_alone (record {
  parts = record { packet = Receiver 9 []; octets = padded; padding = 4 } ∷ [];
  packets = refl;
  whole = refl;
  each = (is_padded, tt);
  report = inr refl;
  unpadded = tt;
})
