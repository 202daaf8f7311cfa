use Rattle.std.proofs.Common.{rules, [], ◌∷◌, refl}
use Rattle.worked_codecs.specs.Packets.{extended}
use Rattle.worked_codecs.proofs.reading_packets.an_extension_and_padding.Goals as goal

pub returns : goal.returns
returns c = c.read.ensures.only extended (record {
  padding_octets = 7 ∷ 2 ∷ [];
  parts = refl;
  header = search rules;
  csrcs = refl;
  csrcs_fit = search rules;
  extension = (search rules, 1, refl, search rules);
  padding = (7 ∷ [], refl, refl);
})
