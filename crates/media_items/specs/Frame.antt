-- Video frames on their way through the bridge.
use Rattle.std.specs.Prelude.{ℕ}
use Rattle.rtp_codec.specs.declared.address.Address.{Address}
use Rattle.frame_gate.specs.Frame.{WholeFrame}

-- a frame of a source at an address, in one of its epochs, with the moment in nanoseconds at which it came
pub record SourceFrame : Type 0 where
  pub source : ℕ
  pub address : Address
  pub epoch : ℕ
  pub moment : ℕ
  pub frame : WholeFrame
