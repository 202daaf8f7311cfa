-- What lanes are given, wherever its octets lie in memory (own).
use Rattle.std.specs.Prelude.{ℕ, ℤ, Bool, true, ◌&&◌, ◌||◌, ◌/◌, nat_eq, nat_le, List, length}
use Rattle.rtp_codec.specs.declared.address.Address.{Address}
use Rattle.rtcp_codec.specs.declared.report.ReportBlock.{ReportBlock}
use Rattle.media_items.specs.Frame.{SourceFrame}
use Rattle.media_items.specs.declared.item.Item.{Item}
use Rattle.media_items.specs.declared.item.Item.TheVariants.{Frame, Audio, Tick, Nack, Block, Pli, Report, Renew}

-- the sound of an audio packet: its source and the address it came from, its clock rate in Hz, the timestamp of its
-- first sample, and its samples
pub record Sound : Type 0 where
  pub source : ℕ
  pub address : Address
  pub rate : ℕ
  pub ts : ℕ
  pub samples : List ℤ

-- the address that asks for packets of an outgoing stream again, and the numbers that it asks for
pub record Request : Type 0 where
  pub from : Address
  pub out_ssrc : ℕ
  pub numbers : List ℕ

-- what the receiver at an address reports of an outgoing stream
pub record Told : Type 0 where
  pub from : Address
  pub block : ReportBlock

-- the address that has lost the picture of an outgoing stream
pub record Loss : Type 0 where
  pub from : Address
  pub out_ssrc : ℕ

-- what a lane is given
pub data Input : Type 0 where
  frame : SourceFrame → Input
  audio : Sound → Input
  tick : (moment : ℕ) → Input
  nack : Request → Input
  block : Told → Input
  pli : Loss → Input
  report : (moment : ℕ) → Input
  renew : Input

-- what a lane is given, without where its octets lie
abbrev pub input_of : {A : Type 0} → Item A → Input
input_of (Frame f) = Input.frame f
input_of (Audio ssrc address rate ts samples) =
    Input.audio record { source = ssrc; address = address; rate = rate; ts = ts; samples = samples.items }
input_of (Tick moment) = Input.tick moment
input_of (Nack from out_ssrc numbers) = Input.nack record { from = from; out_ssrc = out_ssrc; numbers = numbers.items }
input_of (Block from b) = Input.block record { from = from; block = b }
input_of (Pli from out_ssrc) = Input.pli record { from = from; out_ssrc = out_ssrc }
input_of (Report moment) = Input.report moment
input_of Renew = Input.renew

-- the clock rates of audio, in Hz (RFC 3551 sections 4.5.11 and 4.5.14)
abbrev pub is_audio_rate : ℕ → Bool
is_audio_rate rate = nat_eq rate 8000 || nat_eq rate 44100

-- the most samples of an audio packet: 200 ms (own)
abbrev pub most_at : ℕ → ℕ
most_at rate = rate / 5

-- sound has one of the clock rates, a sample at least, and no more than a packet may have
abbrev pub is_sized : Input → Bool
is_sized (audio sound) =
    is_audio_rate sound.rate && (nat_le 1 (length sound.samples) && nat_le (length sound.samples) (most_at sound.rate))
is_sized (frame f) = true
is_sized (tick moment) = true
is_sized (nack request) = true
is_sized (block told) = true
is_sized (pli loss) = true
is_sized (report moment) = true
is_sized renew = true
