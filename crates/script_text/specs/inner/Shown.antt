-- The words of packets, as they are appended.
use Rattle.frame_gate.specs.Frame.{SourcePacket}
use Rattle.desk_text.specs.Text.{Word, fixed}
use Rattle.desk_text.specs.Shown.{spelt_packet}

-- the word of a packet
abbrev pub packet_word : SourcePacket → Word
packet_word p = fixed (spelt_packet p.ext p.marker p.pt p.payload)
