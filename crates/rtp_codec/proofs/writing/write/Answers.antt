use Rattle.std.proofs.Common.{append_assoc, refl}
use Rattle.rtp_codec.proofs.PacketLemmas.{written_is_packet}
use Rattle.rtp_codec.proofs.writing.write.Goals as goal

pub returns-clause-ok : goal.returns-clause-ok
returns-clause-ok g c =
    simp (
      c.append-2.ensures.items,
      c.append_numbers.ensures.items,
      c.append.ensures.items,
      c.in_ok-reserve.ensures.items,
      c.fixed_header.ensures.octets,
      append_assoc,
    )
    refl

pub returns-clause-reads : goal.returns-clause-reads
returns-clause-reads g c =
    written_is_packet c.args.header.now c.args.csrcs.now c.args.payload.now c.fixed_header.ensures.fits c.requires.csrcs
