-- What is reported in the examples, in words of 32 bits.
use Rattle.std.specs.Prelude.{ℕ, pos, neg_ℤ, List, [], ◌∷◌}
use Rattle.rtcp_codec.specs.declared.report.ReportBlock.{ReportBlock}

-- the source description of an SSRC with the canonical name `bridge`
abbrev pub name : ℕ → List ℕ
name ssrc = 0x81ca0004 ∷ ssrc ∷ 0x01066272 ∷ 0x69646765 ∷ 0x00000000 ∷ []

-- a block about source 101: a quarter was lost since the last block, and in all one packet more came than was sent
abbrev pub first_block : ReportBlock
first_block = record { ssrc = 101; fraction = 64; lost = neg_ℤ (pos 1); highest = 103; jitter = 175; lsr = 0; dlsr = 0 }

-- a block about source 102: nothing was lost, and a sender report had come
abbrev pub second_block : ReportBlock
second_block =
    record { ssrc = 102; fraction = 0; lost = pos 0; highest = 65537; jitter = 0; lsr = 0x7e800000; dlsr = 65536 }

-- the octets of the name
abbrev pub bridge : List ℕ
bridge = 98 ∷ 114 ∷ 105 ∷ 100 ∷ 103 ∷ 101 ∷ []
