-- What was sent in the examples of a stream: a frame of one packet of each of two sources, to member 1 at port 7.
use Rattle.std.specs.Prelude.{ℕ, pos, true, List, [], ◌∷◌}
use Rattle.media_items.specs.Frame.{SourceFrame}
use Rattle.forward_rewrite.specs.Sending.{Sending}
use Rattle.forward_rewrite.specs.Streams.{StreamOf, state_of}
use Rattle.worked_media.specs.Sent.{owner}

-- a frame of one packet, from its source, moment, timestamp and payload
abbrev pub frame : ℕ → ℕ → ℕ → List ℕ → SourceFrame
frame source moment ts payload = record {
  source = source;
  address = (owner 2 8).address;
  epoch = 1;
  moment = moment;
  frame = record { ts = ts; packets = record { ext = pos 100; marker = true; pt = 96; payload = payload } ∷ [] };
}

-- it is sent
abbrev pub sending : ℕ → ℕ → ℕ → List ℕ → Sending
sending source moment ts payload =
    record { frame = frame source moment ts payload; version = 3; item = 1; owner = owner 1 7 }

-- the frame of source 5
abbrev pub camera : Sending
camera = sending 5 0 9000 (171 ∷ [])

-- the frame of source 6, 40 milliseconds later
abbrev pub screen : Sending
screen = sending 6 40000000 70000 (172 ∷ [])

-- a stream that has sent both, from number 65535 and timestamp 1000 on
abbrev pub after_both : StreamOf
after_both = state_of 500 65535 1000 (camera ∷ screen ∷ [])

-- the octets of the second packet: number 0, timestamp 4600, SSRC 500, contributing source 6
abbrev pub second_octets : List ℕ
second_octets =
    129 ∷ 224 ∷ 0 ∷ 0 ∷ 0 ∷ 0 ∷ 17 ∷ 248 ∷ 0 ∷ 0 ∷ 1 ∷ 244 ∷ 0 ∷ 0 ∷ 0 ∷ 6 ∷ 172 ∷ []
