-- Packets and parts of them that worked calls read and write, field by field.
use Rattle.std.specs.Prelude.{ℕ, true, false, List, [], ◌∷◌, Some, None, ℤ}
use Rattle.rtp_codec.specs.Packet.{Packet, plain}
use Rattle.rtcp_codec.specs.declared.nack.NackWord.{NackWord}
use Rattle.rtcp_codec.specs.declared.report.ReportBlock.{ReportBlock}
use Rattle.rtcp_codec.specs.Description.{Chunk}

-- a header alone, its fields at their most
abbrev pub greatest : Packet
greatest = plain (record { marker = true; pt = 127; seq = 65535; ts = 0xffff_ffff; ssrc = 0xffff_ffff }) [] []

-- a contributing source and a payload of two octets
abbrev pub from_101 : Packet
from_101 = plain (record { marker = false; pt = 100; seq = 65535; ts = 1000; ssrc = 501 }) (101 ∷ []) (170 ∷ 187 ∷ [])

-- an extension of one word, a payload of one octet, two octets of padding
abbrev pub extended : Packet
extended = record {
  header = record { marker = false; pt = 100; seq = 1; ts = 2; ssrc = 3 };
  csrc_octets = [];
  extension = Some (0xbede, 1 ∷ 2 ∷ 3 ∷ 4 ∷ []);
  payload = 170 ∷ [];
  padding = 2;
}

-- no payload, one octet of padding
abbrev pub padding_alone : Packet
padding_alone = record {
  header = record { marker = false; pt = 100; seq = 1; ts = 2; ssrc = 3 };
  csrc_octets = [];
  extension = None;
  payload = [];
  padding = 1;
}

-- a block about source 101 with this loss
abbrev pub block : ℤ → ReportBlock
block lost = record { ssrc = 101; fraction = 11; lost = lost; highest = 65535; jitter = 33; lsr = 51966; dlsr = 258 }

-- what source 9 says of itself in one item of this type
abbrev pub chunk : ℕ → List ℕ → Chunk
chunk kind text = record { ssrc = 9; items = record { kind = kind; text = text } ∷ [] }

-- a word of a NACK
abbrev pub word : ℕ → ℕ → NackWord
word pid blp = record { pid = pid; blp = blp }
