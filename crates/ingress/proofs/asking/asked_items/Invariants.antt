-- The items of the packets so far.
use Rattle.std.proofs.Common.{◌≡◌, map, take}
use Rattle.std.specs.List.{flat_map}
use Rattle.rtcp_codec.specs.View.{packets_of}
use Rattle.media_items.specs.Inputs.{input_of}
use Rattle.ingress.specs.Control.{asks}
use Rattle.ingress.proofs.asking.asked_items.Given as goal

abbrev pub invariant-loop-packet : goal.invariant-loop-packet
invariant-loop-packet g l =
    map input_of l.items.items ≡ flat_map (asks l.from) (packets_of (take l.packet-index l.packets))
