-- A media packet and a source, as the functions of the receive side hand them on.
use Rattle.rtp_codec.specs.View.{packet_of}
use Rattle.ingress.specs.declared.media_packet.MediaPacket.{MediaPacket as Parts}
use Rattle.ingress.specs.declared.media_packet.Origin.{Origin as OriginParts}
use Rattle.ingress.specs.Sources.{Origin}
use Rattle.ingress.specs.Media.{MediaPacket}

-- a media packet, without where its octets lie in memory
abbrev pub incoming_of : Parts → MediaPacket
incoming_of parts = record { from = parts.from.now; moment = parts.moment; packet = packet_of parts.view.now }

-- a source, by its parts
abbrev pub origin_in : OriginParts → Origin
origin_in parts = record { address = parts.address; ssrc = parts.ssrc }
