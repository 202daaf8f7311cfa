-- A payload that is kept with the samples that it was encoded from, and the block that packets are cut off.
use Rattle.std.specs.Prelude.{◌≡◌, true, ℕ, ◌+◌, ◌*◌}
use Rattle.rtp_codec.specs.Packet.{most_csrcs}
use Rattle.media_items.specs.declared.format.Format.TheVariants.{L16At44100}
use Rattle.media_items.specs.Formats.{octets_of, tick_of, encoded}
use Rattle.mixer.specs.declared.encoding.Encoded.{Encoded}
use Rattle.mixer.specs.declared.encoding.Encodings.{Encodings}

-- If the samples are kept, the payload is theirs in their format.
abbrev pub IsEncoded : {A : Type 0} → Encoded A → Type 0
IsEncoded e = e.kept ≡ true → e.payload.items ≡ encoded e.format e.samples.items

-- Of each encoding: if the samples are kept, the payload is theirs in their format.
pub record AreEncoded {A : Type 0} (e : Encodings A) : Type 0 where
  pub pcmu : IsEncoded e.pcmu
  pub linear : IsEncoded e.linear

-- the octets of the longest packet: a header with all contributing sources, and a tick of the longest format
abbrev pub most_packet : ℕ
most_packet = 12 + 4 * most_csrcs + octets_of L16At44100 * tick_of L16At44100

-- the octets of the packets of a full room
abbrev pub most_block : ℕ
most_block = 64 * most_packet
