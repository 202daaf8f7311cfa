-- What is kept of a source, and how it stands to the source's story.
use Rattle.std.specs.Prelude.{◌≡◌, ℕ, ◌≤◌, Bool, nat_eq, if◌then◌else◌, List, [], ◌∷◌, ◌++◌, length, Option, None, Some}
use Rattle.std.specs.Prelude.{is_some, true}
use Rattle.source_valid.specs.declared.verdict.Verdict.{Verdict}
use Rattle.source_valid.specs.inner.Kept.{Kept as SourceOf}
use Rattle.source_valid.specs.Histories.{Step, Number, standing_of, verdict_of}
use Rattle.source_valid.specs.Represents.{Represents as IsGiven}
use Rattle.source_valid.specs.Ranges.{IsInRange}
use Rattle.frame_gate.specs.Packets.{NumberedPacket}
use Rattle.frame_gate.specs.Epochs.{most_missing}
use Rattle.frame_gate.specs.Watched.{GateEvent, came, watch_of}
use Rattle.frame_gate.specs.Admits.{Answers}
use Rattle.frame_gate.specs.Waits.{WatchedOf as GateOf, PreparedPacketOf, PreparedWaitOf, Watches, CommitsPacket}
use Rattle.frame_gate.specs.Waits.{CommitsWait, PreparesWait}
use Rattle.ingress.specs.Stories.{Story, RtpArrival, initialises, arrival}

-- a clock rate, a source, its epoch, and its gate, which it has from the first packet on that comes to it
pub record EntryOf : Type 0 where
  pub rate : ℕ
  pub source : SourceOf
  pub epoch : ℕ
  pub gate : Option GateOf

-- this came to the gate, a packet at least
abbrev pub HasGateEvents : Option GateOf → List GateEvent → Type 0
HasGateEvents None events = events ≡ []
HasGateEvents (Some gate) [] = ⊥
HasGateEvents (Some gate) (e ∷ events) = Watches gate (watch_of (e ∷ events))

-- the source was given this
abbrev pub HasGiven : Option SourceOf → List Step → Type 0
HasGiven None given = given ≡ []
HasGiven (Some source) given = IsGiven source given

-- what is kept of a source with this story
pub record Keeps (k : EntryOf) (story : Story) : Type 0 where
  pub rate : k.rate ≡ story.rate
  pub given : IsGiven k.source story.given
  pub epoch : k.epoch ≡ story.epoch
  pub gate_events : HasGateEvents k.gate story.gate_events

-- a clock rate, a source with a packet, the verdict on it, and the epoch before it
pub record ValidatedOf : Type 0 where
  pub rate : ℕ
  pub source : SourceOf
  pub verdict : Verdict
  pub begins : Bool
  pub epoch : ℕ

-- Whatever the source was given, this is the verdict on a packet, and what becomes of the source.
pub record Validates (source : Option SourceOf) (m : RtpArrival) (j : ValidatedOf) : Type 0 where
  pub rate : j.rate ≡ m.rate
  pub range : IsInRange j.verdict
  pub verdict : (given : List Step) → HasGiven source given → j.verdict ≡ verdict_of (standing_of given) m.seq
  pub begins : (given : List Step) → HasGiven source given → j.begins ≡ initialises (standing_of given) j.verdict
  pub given : (given : List Step) → HasGiven source given
      → IsGiven j.source (given ++ Number m.seq ∷ arrival j.verdict m)

-- a packet that is ready for a gate: a new one, where there was none
pub record AdmissionOf : Type 0 where
  pub fresh : Option GateOf
  pub prepared : PreparedPacketOf

-- the gate that a packet comes to
abbrev pub base_of : Option GateOf → AdmissionOf → Option GateOf
base_of gate a = elim a.fresh [ None ↦ gate | Some fresh ↦ Some fresh ]

-- Whatever came to the gate: once it is committed, one more packet is answered, and came to the gate too.
pub record Admits (gate : Option GateOf) (p : NumberedPacket) (a : AdmissionOf) : Type 0 where
  pub ready : is_some (base_of gate a) ≡ true
  pub after : (events : List GateEvent) (old new : GateOf) → HasGateEvents gate events → base_of gate a ≡ Some old
      → CommitsPacket old a.prepared new
      → Answers (watch_of events).epoch p a.prepared.prepared.answer × HasGateEvents (Some new) (events ++ came p ∷ [])

-- what was ready was committed
pub record CommitsOne (old : Option GateOf) (a : AdmissionOf) (new : Option GateOf) : Type 0 where
  pub base : GateOf
  pub gate : GateOf
  pub before : base_of old a ≡ Some base
  pub commits : CommitsPacket base a.prepared gate
  pub now : new ≡ Some gate

-- what a source is to become: its clock rate, with what it was given, its epoch, whether this begins with the packet,
-- and what is ready for its gate
pub record NextOf : Type 0 where
  pub rate : ℕ
  pub source : SourceOf
  pub epoch : ℕ
  pub begins : Bool
  pub admission : Option AdmissionOf

-- the gate of what is kept; none where an epoch begins
abbrev pub gate_in : Option EntryOf → Option GateOf
gate_in None = None
gate_in (Some k) = k.gate

abbrev pub gate_for : Option EntryOf → Bool → Option GateOf
gate_for None begins = None
gate_for (Some k) begins = if begins then None else k.gate

-- what is kept of a source at this clock rate: what is kept at another is dropped
abbrev pub kept_by : (rate : ℕ) → Option EntryOf → Option EntryOf
kept_by rate None = None
kept_by rate (Some k) = if nat_eq k.rate rate then Some k else None

abbrev pub CommitsAll : Option GateOf → Option AdmissionOf → Option GateOf → Type 0
CommitsAll old None new = new ≡ old
CommitsAll old (Some a) new = CommitsOne old a new

-- what is kept became what it was to become
pub record Becomes (old : Option EntryOf) (next : NextOf) (new : EntryOf) : Type 0 where
  pub rate : new.rate ≡ next.rate
  pub source : new.source ≡ next.source
  pub epoch : new.epoch ≡ next.epoch
  pub gate : CommitsAll (gate_for old next.begins) next.admission new.gate

-- The prepared wait was committed at the gate.
pub record HasWaited (old : Option GateOf) (r : PreparedWaitOf) (new : Option GateOf) : Type 0 where
  pub base : GateOf
  pub gate : GateOf
  pub before : old ≡ Some base
  pub commits : CommitsWait base r gate
  pub now : new ≡ Some gate

-- A wait is ready for the gate, if there is one; it asks for no more numbers again than are missing.
abbrev pub ReadiesWait : Option GateOf → Option PreparedWaitOf → Type 0
ReadiesWait None None = Unit {0}
ReadiesWait None (Some r) = ⊥
ReadiesWait (Some gate) None = ⊥
ReadiesWait (Some gate) (Some r) = PreparesWait gate r × (length r.nacks ≤ most_missing)
