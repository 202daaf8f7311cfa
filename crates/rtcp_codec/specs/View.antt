-- Packets and their parts, without where they lie in memory.
use Rattle.std.specs.Prelude.{List, map}
use Rattle.std.specs.Option.{option_map}
use Rattle.rtcp_codec.specs.declared.description.SdesItem.{SdesItem}
use Rattle.rtcp_codec.specs.declared.description.SdesChunk.{SdesChunk}
use Rattle.rtcp_codec.specs.declared.packet.Rtcp.{Rtcp}
use Rattle.rtcp_codec.specs.declared.packet.Rtcp.TheVariants as variants
use Rattle.rtcp_codec.specs.Description.{Item, Chunk}
use Rattle.rtcp_codec.specs.Packet.{Packet, Sender, Receiver, Sdes, Bye, App, Nack, Pli, Other}

module _ {A : Type 0} where
  -- the item that a value shows
  abbrev pub item_of : SdesItem A → Item
  item_of i = record { kind = i.kind; text = i.text.items }

  -- the chunk that a value shows
  abbrev pub chunk_of : SdesChunk A → Chunk
  chunk_of c = record { ssrc = c.ssrc; items = map item_of c.items.items }

  -- the packet that a value shows
  abbrev pub packet_of : Rtcp A → Packet
  packet_of (variants.Sender s) = Sender s.ssrc s.ntp s.ts s.packets s.octets s.blocks.items
  packet_of (variants.Receiver r) = Receiver r.ssrc r.blocks.items
  packet_of (variants.Sdes chunks) = Sdes (map chunk_of chunks.items)
  packet_of (variants.Bye b) = Bye b.ssrcs.items (option_map (λ v. v.items) b.reason)
  packet_of (variants.App a) = App a.subtype a.ssrc a.name a.content.items
  packet_of (variants.Nack n) = Nack n.sender n.media n.words.items
  packet_of (variants.Pli p) = Pli p.sender p.media
  packet_of (variants.Other o) = Other o.pt o.count o.body.items

  -- the packets that values show, in order
  abbrev pub packets_of : List (Rtcp A) → List Packet
  packets_of ps = map packet_of ps
