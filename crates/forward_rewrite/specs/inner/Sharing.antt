-- Frames with what their packets share.
use Rattle.forward_rewrite.specs.declared.packets.Shared.{Shared}
use Rattle.media_items.specs.Frame.{SourceFrame}
use Rattle.forward_rewrite.specs.Sending.{sending_of}
use Rattle.forward_rewrite.specs.Timestamps.{Stamped}

-- a frame with the timestamp, the stamp and the owner that its packets share
abbrev pub stamped_by : Shared → SourceFrame → Stamped
stamped_by shared f = record { sending = sending_of f shared.stamp shared.owner; ts = shared.ts }
