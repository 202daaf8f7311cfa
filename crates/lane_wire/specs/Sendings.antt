-- Datagrams that were sent over a wire, each until it was taken, failed, or had waited long enough (own).
use Rattle.std.specs.Prelude.{◌≡◌, ◌≤◌, ℕ, ◌+◌, Bool, true, false, if◌then◌else◌, List, [], ◌∷◌, ◌++◌, length, map}
use Rattle.std.specs.Prelude.{Result, Ok, Err}
use Rattle.std.specs.List.{flat_map}
use Rattle.rtp_codec.specs.declared.address.Address.{Address}
use Rattle.lane_wire.specs.declared.fault.SendFault.{SendFault}
use Rattle.lane_wire.specs.declared.fault.SendFault.TheVariants.{NotReady, Denied, Refused, Unreachable, TooLong, Other}
use Rattle.lane_wire.specs.declared.counts.SendCounts.{SendCounts}
use Rattle.lane_wire.specs.Tries.{WireStep, tried, most_pauses, unready}
use Rattle.lane_wire.specs.Counted.{after_pauses, after_answer}

-- a datagram that was sent: how many pauses were made for it, and what came of its last try
pub record Sending : Type 0 where
  pub datagram : Address × List ℕ
  pub pauses : ℕ
  pub answer : Result (Unit {0}) SendFault

-- The wire was not ready.
abbrev pub is_unready : Result (Unit {0}) SendFault → Bool
is_unready (Ok done) = false
is_unready (Err NotReady) = true
is_unready (Err Denied) = false
is_unready (Err Refused) = false
is_unready (Err Unreachable) = false
is_unready (Err TooLong) = false
is_unready (Err Other) = false

-- how many pauses are made for a datagram at most: none where the one before it was given up
abbrev pub patience : Bool → ℕ
patience is_stuck = if is_stuck then 0 else most_pauses

-- It was given up only after so many pauses, and never had more.
pub record IsPatient (most : ℕ) (s : Sending) : Type 0 where
  pub few : s.pauses ≤ most
  pub limit : s.answer ≡ Err NotReady → s.pauses ≡ most

-- Each was waited for as long as it may be. At the beginning it is known whether the one before these was given up.
abbrev pub ArePatient : Bool → List Sending → Type 0
ArePatient is_stuck [] = Unit {0}
ArePatient is_stuck (s ∷ rest) = IsPatient (patience is_stuck) s × ArePatient (is_unready s.answer) rest

-- whether the last of these was given up, or the one before them if there are none
abbrev pub last_is_stuck : Bool → List Sending → Bool
last_is_stuck is_stuck [] = is_stuck
last_is_stuck is_stuck (s ∷ rest) = last_is_stuck (is_unready s.answer) rest

-- what was done on the wire for it: a pause after each try that found the wire not ready, and then the last try
abbrev pub steps_for : Sending → List WireStep
steps_for s = unready (s.datagram ∷ []) s.pauses ++ tried s.datagram s.answer ∷ []

-- the counts with it
abbrev pub counted : Sending → SendCounts → SendCounts
counted s counts = after_answer (length s.datagram.1) s.answer (after_pauses s.pauses counts)

-- the counts with these, one after another
abbrev pub all_counted : List Sending → SendCounts → SendCounts
all_counted [] counts = counts
all_counted (s ∷ rest) counts = all_counted rest (counted s counts)

-- how many octets these datagrams have
abbrev pub octets_together : List (Address × List ℕ) → ℕ
octets_together [] = 0
octets_together (d ∷ rest) = length d.1 + octets_together rest

-- what a sink knows of what it sent: what was done on its wire, the counts, and whether the last datagram was given up
pub record SentSoFar : Type 0 where
  pub steps : List WireStep
  pub counts : SendCounts
  pub is_stuck : Bool

-- these three as one
abbrev pub so_far : List WireStep → SendCounts → Bool → SentSoFar
so_far steps counts is_stuck = record { steps = steps; counts = counts; is_stuck = is_stuck }

-- These datagrams were sent, each once and in this order, and nothing else was done on the wire. They were counted.
pub record WereSent (datagrams : List (Address × List ℕ)) (old new : SentSoFar) : Type 0 where
  pub sendings : List Sending
  pub these : map (λ s. s.datagram) sendings ≡ datagrams
  pub patient : ArePatient old.is_stuck sendings
  pub steps : new.steps ≡ old.steps ++ flat_map steps_for sendings
  pub counts : new.counts ≡ all_counted sendings old.counts
  pub stuck : new.is_stuck ≡ last_is_stuck old.is_stuck sendings
