-- What a source was given since it became known, and how a packet is judged by that (RFC 3550 A.1 and A.8).
use Rattle.std.specs.Prelude.{ℕ, ◌+◌, ◌*◌, ◌/◌, ◌^◌, ◌%◌, Bool, true, false, not, nat_eq, if◌then◌else◌, List, [], ◌∷◌}
use Rattle.std.specs.Prelude.{◌++◌, Option, None, Some}
use Rattle.source_valid.specs.declared.verdict.Verdict.{Verdict}
use Rattle.source_valid.specs.declared.verdict.Verdict.TheVariants.{Probation, Accepted, Jump, Restarted}
use Rattle.source_valid.specs.Histories.{Step, Number, Arrival, Standing, standing_of, verdict_of, past_probation_in}
use Rattle.frame_gate.specs.Epochs.{Epoch}
use Rattle.frame_gate.specs.Watched.{GateEvent, watch_of}

-- the clock rate of a source in Hz, what it was given, its epoch, or 0 before its first one, and what came to its gate
-- in this epoch: packets, and waits after the first packet
pub record Story : Type 0 where
  pub rate : ℕ
  pub given : List Step
  pub epoch : ℕ
  pub gate_events : List GateEvent

-- the story of a source of this clock rate of which nothing is known
abbrev pub untold : ℕ → Story
untold rate = record { rate = rate; given = []; epoch = 0; gate_events = [] }

-- the epoch at a source's gate; without waits it is that of the packets alone
abbrev pub gate_epoch : Story → Epoch
gate_epoch story = (watch_of story.gate_events).epoch

-- the story of a source by which a packet of this clock rate is judged: the story at another rate is dropped, and the
-- source begins anew (own)
abbrev pub story_by : (rate : ℕ) → Option Story → Story
story_by rate None = untold rate
story_by rate (Some story) = if nat_eq story.rate rate then story else untold rate

-- a packet as its source judges it: the clock rate in Hz, its sequence number and timestamp, and its arrival in units
-- of the clock rate
pub record RtpArrival : Type 0 where
  pub rate : ℕ
  pub seq : ℕ
  pub ts : ℕ
  pub units : ℕ

-- a moment, in nanoseconds since 1970, in units of a clock rate in Hz, modulo 2^32
abbrev pub units_of : ℕ → ℕ → ℕ
units_of rate moment = moment * rate / 10 ^ 9 % 2 ^ 32

-- the verdict on a packet of this number
abbrev pub validated : Story → ℕ → Verdict
validated story seq = verdict_of (standing_of story.given) seq

-- Only an accepted packet's arrival counts.
abbrev pub arrival : Verdict → RtpArrival → List Step
arrival Probation m = []
arrival (Accepted ext) m = Arrival m.ts m.units ∷ []
arrival Jump m = []
arrival (Restarted ext) m = Arrival m.ts m.units ∷ []

-- A source is initialised when its probation ends, and when it restarts.
abbrev pub initialises : Standing → Verdict → Bool
initialises standing Probation = false
initialises standing (Accepted ext) = not (past_probation_in standing)
initialises standing Jump = false
initialises standing (Restarted ext) = true

-- the packet of this number initialises the source
abbrev pub begins : Story → ℕ → Bool
begins story seq = initialises (standing_of story.given) (validated story seq)

-- the story with a packet, after this many epochs: an initialisation begins the next one, with no packet in its gate
abbrev pub validated_on : Story → ℕ → RtpArrival → Story
validated_on story epochs m = record {
  rate = m.rate;
  given = story.given ++ Number m.seq ∷ arrival (validated story m.seq) m;
  epoch = if begins story m.seq then epochs + 1 else story.epoch;
  gate_events = if begins story m.seq then [] else story.gate_events;
}
