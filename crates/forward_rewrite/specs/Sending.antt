-- Frames that go out on a stream, and the packets that they go out as.
use Rattle.std.specs.Prelude.{◌≡◌, ℕ, List}
use Rattle.retransmit.specs.declared.owner.Owner.{Owner}
use Rattle.retransmit.specs.SentPacket.{SentPacket}
use Rattle.media_items.specs.declared.stamp.Stamp.{Stamp}
use Rattle.media_items.specs.Frame.{SourceFrame}

-- a frame that is sent, by which version of the desk, as which item of the lane, and to whom
pub record Sending : Type 0 where
  pub frame : SourceFrame
  pub version : ℕ
  pub item : ℕ
  pub owner : Owner

-- a packet as it goes out: its number and its octets
pub record Numbered : Type 0 where
  pub number : ℕ
  pub bytes : List ℕ

-- a frame with the stamp by which it is sent and the owner to whom it is sent
abbrev pub sending_of : SourceFrame → Stamp → Owner → Sending
sending_of f stamp owner = record { frame = f; version = stamp.version; item = stamp.item; owner = owner }

-- a sent packet as it goes out
abbrev pub out_of : SentPacket → Numbered
out_of p = record { number = p.number; bytes = p.bytes }

-- The packet went to the owner of this sending, by its version and as its item, and is of its frame's source.
pub record IsOf (s : Sending) (p : SentPacket) : Type 0 where
  pub owner : p.owner ≡ s.owner
  pub version : p.version ≡ s.version
  pub item : p.item ≡ s.item
  pub source : p.source ≡ s.frame.source
  pub address : p.address ≡ s.frame.address
  pub epoch : p.epoch ≡ s.frame.epoch
