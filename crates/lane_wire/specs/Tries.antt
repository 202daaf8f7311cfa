-- What is done on a wire of a lane (own).
use Rattle.std.specs.Prelude.{ℕ, zero, suc, List, [], ◌∷◌, ◌++◌, map, Result, Err}
use Rattle.rtp_codec.specs.declared.address.Address.{Address}
use Rattle.lane_wire.specs.declared.fault.SendFault.{SendFault}
use Rattle.lane_wire.specs.declared.fault.SendFault.TheVariants.{NotReady}

-- a try to send a datagram, with its answer; or a pause, in which the wire may become ready
pub data WireStep : Type 0 where
  tried : Address × List ℕ → Result (Unit {0}) SendFault → WireStep
  paused : WireStep

-- the most pauses that are made for a datagram; each is about a millisecond long
abbrev pub most_pauses : ℕ
most_pauses = 20

-- Each of these datagrams was tried once, with this answer.
abbrev pub all_tried : List (Address × List ℕ) → Result (Unit {0}) SendFault → List WireStep
all_tried datagrams answer = map (λ d. tried d answer) datagrams

-- The wire was not ready for these datagrams so many times, and each time a pause was made.
abbrev pub unready : List (Address × List ℕ) → ℕ → List WireStep
unready datagrams zero = []
unready datagrams (suc k) = unready datagrams k ++ (all_tried datagrams (Err NotReady) ++ paused ∷ [])
