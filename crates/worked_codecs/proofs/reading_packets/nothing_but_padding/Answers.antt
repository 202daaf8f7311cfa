use Rattle.std.proofs.Common.{rules, [], ◌∷◌, refl}
use Rattle.worked_codecs.specs.Packets.{padding_alone}
use Rattle.worked_codecs.proofs.reading_packets.nothing_but_padding.Goals as goal

pub returns : goal.returns
returns c = c.read.ensures.only padding_alone (record {
  padding_octets = 1 ∷ [];
  parts = refl;
  header = search rules;
  csrcs = refl;
  csrcs_fit = search rules;
  extension = search rules;
  padding = search rules;
})
