-- Compounds that worked calls read and write: their packets, and the words of 32 bits that they are on the wire.
use Rattle.std.specs.Prelude.{ℕ, List, [], ◌∷◌, Some, None, negsuc}
use Rattle.rtcp_codec.specs.Packet.{Packet, Sender, Receiver, Sdes, Bye, App, Nack, Pli, Other}
use Rattle.worked_codecs.specs.Packets.{block, chunk, word}

-- a receiver report without blocks
abbrev pub report_alone : List Packet
report_alone = Receiver 9 [] ∷ []

-- on the wire
abbrev pub report_alone_words : List ℕ
report_alone_words = 0x80c9_0001 ∷ 0x0000_0009 ∷ []

-- a receiver report with a block of the least loss that 24 bits can tell
abbrev pub least_loss : List Packet
least_loss = Receiver 9 (block (negsuc 8388607) ∷ []) ∷ []

-- on the wire
abbrev pub least_loss_words : List ℕ
least_loss_words =
    0x81c9_0007 ∷ 0x0000_0009 ∷ 0x0000_0065 ∷ 0x0b80_0000 ∷ 0x0000_ffff ∷ 0x0000_0021 ∷ 0x0000_cafe ∷
    0x0000_0102 ∷ []

-- a sender report without blocks, and a source that leaves
abbrev pub sender_leaves : List Packet
sender_leaves = Sender 9 0x0000_0002_8000_0003 4 5 6 [] ∷ Bye (7 ∷ []) None ∷ []

-- on the wire
abbrev pub sender_leaves_words : List ℕ
sender_leaves_words =
    0x80c8_0006 ∷ 0x0000_0009 ∷ 0x0000_0002 ∷ 0x8000_0003 ∷ 0x0000_0004 ∷ 0x0000_0005 ∷ 0x0000_0006 ∷
    0x81cb_0001 ∷ 0x0000_0007 ∷ []

-- a report, and what two chunks say of a source
abbrev pub two_chunks : List Packet
two_chunks = Receiver 9 [] ∷ Sdes (chunk 1 (97 ∷ []) ∷ chunk 2 (97 ∷ 98 ∷ []) ∷ []) ∷ []

-- on the wire
abbrev pub two_chunks_words : List ℕ
two_chunks_words =
    0x80c9_0001 ∷ 0x0000_0009 ∷ 0x82ca_0005 ∷ 0x0000_0009 ∷ 0x0101_6100 ∷ 0x0000_0009 ∷ 0x0202_6162 ∷
    0x0000_0000 ∷ []

-- a report, and a reason for leaving of one octet
abbrev pub short_reason : List Packet
short_reason = Receiver 9 [] ∷ Bye (7 ∷ []) (Some (97 ∷ [])) ∷ []

-- on the wire
abbrev pub short_reason_words : List ℕ
short_reason_words = 0x80c9_0001 ∷ 0x0000_0009 ∷ 0x81cb_0002 ∷ 0x0000_0007 ∷ 0x0161_0000 ∷ []

-- a report, an empty reason for leaving, which isn't none, and none
abbrev pub empty_reason : List Packet
empty_reason = Receiver 9 [] ∷ Bye (7 ∷ []) (Some []) ∷ Bye (7 ∷ []) None ∷ []

-- on the wire
abbrev pub empty_reason_words : List ℕ
empty_reason_words =
    0x80c9_0001 ∷ 0x0000_0009 ∷ 0x81cb_0002 ∷ 0x0000_0007 ∷ 0x0000_0000 ∷ 0x81cb_0001 ∷ 0x0000_0007 ∷ []

-- a report, and what an application says
abbrev pub application : List Packet
application = Receiver 9 [] ∷ App 5 9 (98 ∷ 97 ∷ 114 ∷ 32 ∷ []) (1 ∷ 2 ∷ 3 ∷ 4 ∷ []) ∷ []

-- on the wire
abbrev pub application_words : List ℕ
application_words = 0x80c9_0001 ∷ 0x0000_0009 ∷ 0x85cc_0003 ∷ 0x0000_0009 ∷ 0x6261_7220 ∷ 0x0102_0304 ∷ []

-- a report, a NACK of two words and a PLI
abbrev pub nack_and_pli : List Packet
nack_and_pli = Receiver 9 [] ∷ Nack 9 101 (word 65535 0x8001 ∷ word 16 0 ∷ []) ∷ Pli 9 101 ∷ []

-- on the wire
abbrev pub nack_and_pli_words : List ℕ
nack_and_pli_words =
    0x80c9_0001 ∷ 0x0000_0009 ∷ 0x81cd_0004 ∷ 0x0000_0009 ∷ 0x0000_0065 ∷ 0xffff_8001 ∷ 0x0010_0000 ∷
    0x81ce_0002 ∷ 0x0000_0009 ∷ 0x0000_0065 ∷ []

-- a report, and feedback of another format
abbrev pub other_format : List Packet
other_format = Receiver 9 [] ∷ Other 206 4 (1 ∷ 2 ∷ 3 ∷ 4 ∷ []) ∷ []

-- on the wire
abbrev pub other_format_words : List ℕ
other_format_words = 0x80c9_0001 ∷ 0x0000_0009 ∷ 0x84ce_0001 ∷ 0x0102_0304 ∷ []
