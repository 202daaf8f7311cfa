-- Which packets a receiver asks for again (RFC 4585 section 6.2.1).
use Rattle.std.specs.Prelude.{ℕ, List, []}
use Rattle.rtcp_codec.specs.Nack.{numbers_named}
use Rattle.rtcp_codec.specs.Packet.{Packet, Sender, Receiver, Sdes, Bye, App, Nack, Pli, Other}

-- the numbers that a packet asks for: those that the words of a NACK name, in order, repeats included; no other packet
-- asks
abbrev pub asked_in : Packet → List ℕ
asked_in (Nack sender media words) = numbers_named words
asked_in (Sender ssrc ntp ts packets octets blocks) = []
asked_in (Receiver ssrc blocks) = []
asked_in (Sdes chunks) = []
asked_in (Bye ssrcs reason) = []
asked_in (App subtype ssrc name content) = []
asked_in (Pli sender media) = []
asked_in (Other pt count body) = []
