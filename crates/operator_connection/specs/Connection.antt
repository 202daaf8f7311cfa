-- An operator's connection, and what changes in it (own).
use Rattle.std.specs.Prelude.{◌≡◌, ◌-◌, ℕ, nat_eq, Bool, true, not, ◌&&◌, List, [], ◌∷◌, ◌++◌}
use Rattle.std.specs.Prelude.{length, if◌then◌else◌, Option, Some, None, is_none}
use Rattle.operator_lines.specs.Fed.{Kept, StandsFor, texts}
use Rattle.operator_lines.specs.declared.feeding.Fed.{Fed}
use Rattle.std.specs.declared.alloc.Global.{Global}
use Rattle.operator_connection.specs.declared.talking.Came.{Came}
use Rattle.operator_connection.specs.declared.talking.LinkState.{LinkState}
use Rattle.operator_connection.specs.declared.talking.LinkState.TheVariants.{Open, Lost}
use Rattle.operator_connection.specs.declared.talking.Talk.{Talk}
use Rattle.operator_connection.specs.declared.readiness.Readiness.{Readiness}
use Rattle.operator_connection.specs.Acts.{Act, waited, looked, read, octet_count}
use Rattle.operator_connection.specs.Readiness.{after_events, longest_wait, not_after}
use Rattle.operator_connection.specs.Talking.{is_open, is_over, after_stop, since_stop, after_read, since_read}

-- lines that wait for a seat, the first good one and those behind it, and whether one behind them is too long
pub record Heeded : Type 0 where
  pub lines : List (List ℕ)
  pub too_long : Bool

-- An operator's connection: what was done on it, what is kept of its stream, what waits to be written, its state, the
-- moment of its last change, what its socket may do, and the lines that wait for a seat, if any do.
pub record Connection : Type 0 where
  pub acts : List Act
  pub kept : Kept
  pub waiting : List ℕ
  pub standing : LinkState
  pub since : ℕ
  pub ready : Readiness
  pub heeded : Option Heeded

-- the lines that were heard
abbrev pub heeded_in : Fed Global → Heeded
heeded_in heard = record { lines = texts heard.lines.items; too_long = heard.too_long }

-- the same where any were
abbrev pub heeded_of : Option (Fed Global) → Option Heeded
heeded_of None = None
heeded_of (Some heard) = Some (heeded_in heard)

-- a connection of its parts
abbrev pub connection : List Act → Talk → Readiness → Option (Fed Global) → Connection
connection acts talk ready heard =
    record {
      acts = acts;
      kept = talk.lines;
      waiting = talk.outgoing;
      standing = talk.standing;
      since = talk.since;
      ready = ready;
      heeded = heeded_of heard;
    }

-- An operator's connection with the last moment that its clock told, and what was read last.
pub record CallerOf : Type 0 where
  pub looked : ℕ
  pub connection : Connection
  pub chunk : List ℕ

-- a connection with a seat is to be closed, at the last moment that its clock told
abbrev pub is_seat_over : CallerOf → Bool
is_seat_over c = is_over c.connection.standing true c.connection.waiting (c.looked - c.connection.since)

-- Nothing was said on it yet, behind what was done before its clock told a moment.
pub record IsNew (before : List Act) (c : CallerOf) : Type 0 where
  pub acts : c.connection.acts ≡ before ++ looked c.looked ∷ []
  pub kept : StandsFor c.connection.kept []
  pub waiting : c.connection.waiting ≡ []
  pub standing : c.connection.standing ≡ Open
  pub since : c.connection.since ≡ c.looked
  pub heeded : c.connection.heeded ≡ None

-- its stream is read: it is open, and no line waits for a seat
abbrev pub is_heard : Connection → Bool
is_heard c = is_open c.standing && is_none c.heeded

-- something waits to be written
abbrev pub is_owed : Connection → Bool
is_owed c = not (nat_eq (length c.waiting) 0)

-- neither its stream nor what waits changed
pub record IsSilent (old new : Connection) : Type 0 where
  pub kept : new.kept ≡ old.kept
  pub waiting : new.waiting ≡ old.waiting
  pub heeded : new.heeded ≡ old.heeded

-- The system failed, and the connection is lost.
pub record IsLost (old new : Connection) : Type 0 where
  pub acts : new.acts ≡ old.acts
  pub ready : new.ready ≡ old.ready
  pub standing : new.standing ≡ Lost
  pub since : new.since ≡ old.since
  pub silent : IsSilent old new

-- The socket was waited for, not at all if it may do what is wanted.
pub record WaitsFor (any : Bool) (old new : Connection) : Type 0 where
  pub acts : new.acts ≡ old.acts ++ waited (longest_wait old.ready (is_heard old) (is_owed old)) any ∷ []
  pub ready : new.ready ≡ after_events any old.ready
  pub standing : new.standing ≡ old.standing
  pub since : new.since ≡ old.since
  pub silent : IsSilent old new

-- The clock told a moment.
pub record Looks (moment : ℕ) (old new : Connection) : Type 0 where
  pub acts : new.acts ≡ old.acts ++ looked moment ∷ []
  pub ready : new.ready ≡ old.ready
  pub standing : new.standing ≡ old.standing
  pub since : new.since ≡ old.since
  pub silent : IsSilent old new

-- the socket was waited for, or the system failed
abbrev pub HasWaited : Option Bool → Connection → Connection → Type 0
HasWaited (Some any) old new = WaitsFor any old new
HasWaited None old new = IsLost old new

-- the clock told a moment, or failed
abbrev pub HasLooked : Option ℕ → Connection → Connection → Type 0
HasLooked (Some moment) old new = Looks moment old new
HasLooked None old new = IsLost old new

-- The bridge was found to be stopped.
pub record NotesStop (moment : ℕ) (old new : Connection) : Type 0 where
  pub acts : new.acts ≡ old.acts
  pub ready : new.ready ≡ old.ready
  pub standing : new.standing ≡ after_stop old.standing
  pub since : new.since ≡ since_stop old.standing moment old.since
  pub silent : IsSilent old new

-- A read gave this, and these octets: without any, the connection may end or be lost.
pub record HasRead (came : Came) (octets : List ℕ) (moment : ℕ) (old new : Connection) : Type 0 where
  pub count : length octets ≡ octet_count came
  pub acts : new.acts ≡ old.acts ++ read came octets ∷ []
  pub ready : new.ready ≡ record old.ready { readable = not_after came old.ready.readable }
  pub standing : new.standing ≡ after_read came old.standing
  pub since : new.since ≡ since_read came moment old.since
  pub silent : IsSilent old new

-- after lines were dealt with: the state is this, unless the bridge was found to be stopped
abbrev pub unless_stopped : Bool → LinkState → LinkState
unless_stopped stopped standing = if stopped then after_stop standing else standing

-- Nothing was done meanwhile but with the stream: its last change is this moment.
pub record IsHeardAt (moment : ℕ) (old new : Connection) : Type 0 where
  pub acts : new.acts ≡ old.acts
  pub ready : new.ready ≡ old.ready
  pub since : new.since ≡ moment
