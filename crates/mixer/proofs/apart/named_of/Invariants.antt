-- Those so far that have a sample are named.
use Rattle.std.proofs.Common.{◌≡◌, take}
use Rattle.rtp_codec.specs.Packet.{number_octets}
use Rattle.mix_minus.specs.Mix.{present_in}
use Rattle.mixer.proofs.apart.named_of.Given as goal

abbrev pub invariant-loop-i : goal.invariant-loop-i
invariant-loop-i g l = l.named.items ≡ number_octets (present_in (take l.i l.inputs))
