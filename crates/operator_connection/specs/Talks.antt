-- All that is done on an operator's connection, from its first round to its last (own).
use Rattle.std.specs.Prelude.{◌≡◌, ◌⊎◌, ℕ, Bool, true, false, List, [], ◌++◌, ◌∷◌, Option, Some, None}
use Rattle.std.specs.List.{AllByRecursion, flat_map}
use Rattle.operator_lines.specs.Fed.{StandsFor}
use Rattle.operator_lines.specs.Operators.{TimedReplying, Showing}
use Rattle.operator_connection.specs.declared.talking.LinkState.TheVariants.{Open}
use Rattle.operator_connection.specs.Acts.{all_read, all_written}
use Rattle.operator_connection.specs.Connection.{Heeded, Connection}
use Rattle.operator_connection.specs.Deeds.{Deed, SeatedDeed, AreDeeds, AreSeatedDeeds}
use Rattle.operator_connection.specs.Talking.{is_open}
use Rattle.operator_connection.specs.Deeds.{Beginning, round_alone, round_seated, first_seated, refused}

-- a round without a seat, or the refusal of a seat
abbrev pub IsRoundAlone : List Deed → Type 0
IsRoundAlone deeds =
    ((beginning : Beginning) × (deeds ≡ round_alone beginning))
    ⊎ ((moment : Option ℕ) × (deeds ≡ refused moment))

-- From the one to the other a connection had rounds without a seat, and nothing else was done.
abbrev pub HasWaitedFor : Connection → Connection → Type 0
HasWaitedFor start now =
    (rounds : List (List Deed)) × AllByRecursion IsRoundAlone rounds
    × AreDeeds (flat_map (λ deeds. deeds) rounds) start now

-- the same with one round at least
abbrev pub HasHadRounds : Connection → Connection → Type 0
HasHadRounds start now =
    (first : List Deed) × (rounds : List (List Deed)) × IsRoundAlone first × AllByRecursion IsRoundAlone rounds
    × AreDeeds (flat_map (λ deeds. deeds) (first ∷ rounds)) start now

-- a round with a seat, or the answers to what was heard before
abbrev pub IsRoundSeated : List SeatedDeed → Type 0
IsRoundSeated deeds =
    ((beginning : Beginning) × (deeds ≡ round_seated beginning))
    ⊎ ((moment : Option ℕ) × (deeds ≡ first_seated moment))

-- From the one to the other a connection and its desk had rounds with a seat, and nothing else was done.
abbrev pub HasSat : {D : Type 0} → TimedReplying D → Showing D → D × Connection → D × Connection → Type 0
HasSat replies shows start now =
    (rounds : List (List SeatedDeed)) × AllByRecursion IsRoundSeated rounds
    × AreSeatedDeeds replies shows (flat_map (λ deeds. deeds) rounds) start now

-- the same by the lines that wait for the seat: they are answered at once, if any wait
abbrev pub IsTurn : Option Heeded → List SeatedDeed → Type 0
IsTurn None deeds = (beginning : Beginning) × (deeds ≡ round_seated beginning)
IsTurn (Some heeded) deeds = (moment : Option ℕ) × (deeds ≡ first_seated moment)

-- such a round where the connection goes on, and else nothing
abbrev pub IsStep : Bool → Option Heeded → List SeatedDeed → Type 0
IsStep true heeded deeds = IsTurn heeded deeds
IsStep false heeded deeds = deeds ≡ []

-- octets were appended
abbrev pub Grown : (before after : List ℕ) → Type 0
Grown before after = (text : List ℕ) × (after ≡ before ++ text)

-- all that was appended on a connection: what was written, and what waits
abbrev pub all_appended : Connection → List ℕ
all_appended c = all_written c.acts ++ c.waiting

-- all that was read is the stream of a connection that is open
abbrev pub IsStream : Connection → Type 0
IsStream c = c.standing ≡ Open → StandsFor c.kept (all_read c.acts)

-- All that was read is still the stream of a connection that is open, and octets were only appended.
pub record GoesOn (old new : Connection) : Type 0 where
  pub stream : IsStream new
  pub grown : Grown (all_appended old) (all_appended new)

-- The connection stays ended, and nothing more was read.
pub record StaysEnded (old new : Connection) : Type 0 where
  pub ended : is_open new.standing ≡ false
  pub read : all_read new.acts ≡ all_read old.acts
