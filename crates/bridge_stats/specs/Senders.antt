-- The senders of RTP packets: their addresses and SSRCs (own).
use Rattle.std.specs.Prelude.{Bool, ◌&&◌, nat_eq}
use Rattle.std.specs.Str.{bytes_eq}
use Rattle.rtp_codec.specs.declared.address.Address.{Address}
use Rattle.rtp_codec.specs.declared.writing.Header.{Header}
use Rattle.bridge_stats.specs.declared.sender.Sender.{Sender}

abbrev pub same_sender : Sender → Sender → Bool
same_sender a b = bytes_eq a.ip b.ip && (nat_eq a.port b.port && nat_eq a.ssrc b.ssrc)

-- whoever sent a packet with this header from this address
abbrev pub sender_of : Address → Header → Sender
sender_of from header = record { ip = from.ip; port = from.port; ssrc = header.ssrc }
