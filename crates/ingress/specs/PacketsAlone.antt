-- Sources at whose gates nobody waits.
use Rattle.std.specs.Prelude.{◌≡◌, List, map}
use Rattle.std.specs.List.{AllByRecursion}
use Rattle.frame_gate.specs.Packets.{NumberedPacket}
use Rattle.frame_gate.specs.Watched.{GateEvent, came}
use Rattle.ingress.specs.Stories.{Story}
use Rattle.ingress.specs.Sources.{Sources}

-- Packets alone came to the source's gate.
abbrev pub HasPacketsAlone : Story → Type 0
HasPacketsAlone story = (packets : List NumberedPacket) × (story.gate_events ≡ map came packets)

-- Packets alone came to each source's gate.
abbrev pub HavePacketsAlone : Sources → Type 0
HavePacketsAlone s = AllByRecursion (λ k. HasPacketsAlone k.story) s.known
