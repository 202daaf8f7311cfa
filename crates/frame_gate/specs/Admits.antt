-- What a gate answers.
use Rattle.std.specs.Prelude.{◌≡◌, ℕ, ℤ, ◌+◌, ◌<◌, ◌≤◌, ◌%◌, max, false, List, [], ◌++◌, map, Option, None, Some}
use Rattle.std.specs.Prelude.{slice_set, unwrap_or}
use Rattle.frame_gate.specs.Packets.{NumberedPacket, ext_of}
use Rattle.frame_gate.specs.Answer.{Answer}
use Rattle.frame_gate.specs.declared.walk.Walk.{Walk}
use Rattle.frame_gate.specs.declared.packet.Place.{Place}
use Rattle.frame_gate.specs.declared.packet.Place.TheVariants.{Taken, Late, Duplicate}
use Rattle.frame_gate.specs.inner.Cells.{held, cell, ArePlaced, MayForget, Forgets}
use Rattle.frame_gate.specs.Epochs.{Epoch, gate_size, epoch_of, epoch_after, frames_of, place_of, nacks_of, gives_up}
use Rattle.frame_gate.specs.Epochs.{top}
use Rattle.frame_gate.specs.inner.Ties.{Tied}
use Rattle.frame_gate.specs.inner.Kept.{Kept, PreparedOf, PreparedCutsOf}
use Rattle.frame_gate.specs.GivenUp.{given_up, GaveUp, AnswersGivingUp, missing_in}

-- The gate is where the epoch is, and holds at most the packets numbered next to next + 255.
pub record IsAt (k : Kept) (e : Epoch) : Type 0 where
  pub tied : Tied (held k.cells None) (frames_of e) e k.walk []
  pub greatest : k.greatest ≡ top e.taken
  pub empty : k.greatest ≡ None → (k.walk.next ≡ 0) × ((i : ℕ) → cell k.cells i ≡ None)
  pub placed : ArePlaced k.cells
  pub holds : (i : ℕ) (p : NumberedPacket) → cell k.cells i ≡ Some p
      → (k.walk.next ≤ p.number) × (p.number < k.walk.next + gate_size)

-- The gate has been given these packets.
abbrev pub Represents : Kept → List NumberedPacket → Type 0
Represents k packets = IsAt k (epoch_of packets)

-- This is the answer to one more packet of the epoch.
pub record Answers (e : Epoch) (p : NumberedPacket) (a : Answer) : Type 0 where
  pub place : a.place ≡ place_of e p
  pub frames : frames_of (epoch_after e p) ≡ frames_of e ++ a.frames
  pub nacks : a.nacks ≡ nacks_of e p
  pub pli : a.pli ≡ gives_up e p

-- Wherever the old gate is, this answers one more packet, and the new gate is where the packet leads.
abbrev pub Admits : Kept → Kept → NumberedPacket → Answer → Type 0
Admits old new p a = (e : Epoch) → IsAt old e → Answers e p a × IsAt new (epoch_after e p)

-- The gate has taken the packet and the walk, and has let go of what is decided.
pub record Takes (old : Kept) (packet : NumberedPacket) (walk : Walk) (new : Kept) : Type 0 where
  pub walk_is : new.walk ≡ walk
  pub greatest : new.greatest ≡ Some (max (unwrap_or old.greatest 0) packet.number)
  pub others : MayForget walk.next (slice_set old.cells (packet.number % gate_size) (Some packet)) new.cells
  pub gone : Forgets old.walk.next walk.next (slice_set old.cells (packet.number % gate_size) (Some packet)) new.cells

-- By the packet's place: it is taken, or the gate stays as it was.
abbrev pub CommitsAt : Place → Kept → PreparedOf → Kept → Type 0
CommitsAt Taken old r new = Takes old r.packet r.walk new
CommitsAt Late old r new = new ≡ old
CommitsAt Duplicate old r new = new ≡ old

-- This is the gate after what was prepared is committed.
abbrev pub Commits : Kept → PreparedOf → Kept → Type 0
Commits old r new = CommitsAt r.answer.place old r new

-- Once it is committed, the packet is admitted.
abbrev pub Prepares : Kept → NumberedPacket → PreparedOf → Type 0
Prepares old p r = (new : Kept) → Commits old r new → Admits old new p r.answer

-- Wherever the gate is, these are the missing numbers.
abbrev pub Misses : Kept → List ℤ → Type 0
Misses k numbers = (e : Epoch) → IsAt k e → numbers ≡ map ext_of (missing_in e)

-- Wherever the old gate is, this answers where a number is given up, and the new gate has given it up.
abbrev pub GivesUp : Kept → Kept → ℕ → GaveUp → Type 0
GivesUp old new n a = (e : Epoch) → IsAt old e → AnswersGivingUp e n a × IsAt new (given_up e n)

-- The gate has this walk, and has let go of what is decided.
pub record CommitsCuts (old : Kept) (r : PreparedCutsOf) (new : Kept) : Type 0 where
  pub walk_is : new.walk ≡ r.walk
  pub greatest : new.greatest ≡ old.greatest
  pub others : MayForget r.walk.next old.cells new.cells
  pub gone : Forgets old.walk.next r.walk.next old.cells new.cells

-- Once it is committed, the number is given up.
abbrev pub PreparesCuts : Kept → ℕ → PreparedCutsOf → Type 0
PreparesCuts old n r = (new : Kept) → CommitsCuts old r new → GivesUp old new n r.answer

-- Once they are committed, a number is given up if there is one, and else nothing changes.
abbrev pub PreparesMaybe : Kept → Option ℕ → PreparedCutsOf → Type 0
PreparesMaybe old None r =
    (new : Kept) → CommitsCuts old r new → (e : Epoch) → IsAt old e
    → (r.answer.frames ≡ []) × (r.answer.pli ≡ false) × IsAt new e
PreparesMaybe old (Some n) r = PreparesCuts old n r
