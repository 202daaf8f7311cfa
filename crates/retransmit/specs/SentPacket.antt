-- A packet as it was sent on an outgoing stream (own).
use Rattle.std.specs.Prelude.{ℕ, ℤ, List}
use Rattle.rtp_codec.specs.declared.address.Address.{Address}
use Rattle.retransmit.specs.declared.owner.Owner.{Owner}

-- its number, whom it went to, by which version of the desk and as part of which item; the source's packet that it
-- carried, by the source's SSRC, address and epoch and its extended number; and its octets
pub record SentPacket : Type 0 where
  pub number : ℕ
  pub owner : Owner
  pub version : ℕ
  pub item : ℕ
  pub source : ℕ
  pub address : Address
  pub epoch : ℕ
  pub ext : ℤ
  pub bytes : List ℕ
