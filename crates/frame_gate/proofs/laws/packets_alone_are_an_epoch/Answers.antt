use Rattle.std.proofs.Common.{◌≡◌, List, [], ◌∷◌, map, refl}
use Rattle.std.specs.Prelude.{fold}
use Rattle.frame_gate.specs.Packets.{NumberedPacket}
use Rattle.frame_gate.specs.Epochs.{epoch_after}
use Rattle.frame_gate.specs.Watched.{Watch, came, watch_on, watch_next, unwatched}
use Rattle.frame_gate.proofs.laws.packets_alone_are_an_epoch.Goals as goal

alone : (w : Watch) (packets : List NumberedPacket)
    → (fold watch_on w (map came packets)).epoch ≡ fold epoch_after w.epoch packets
alone w [] = refl
alone w (p ∷ ps) = alone (watch_next w p) ps

pub returns : goal.returns
returns c = λ packets. alone unwatched packets
