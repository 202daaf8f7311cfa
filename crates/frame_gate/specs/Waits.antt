-- What a watched gate answers to a wait.
use Rattle.std.specs.Prelude.{◌≡◌, ℕ, ℤ, ◌+◌, ◌-◌, ◌^◌, min, Bool, ◌&&◌, not, ◌∷◌, take, length, List, unwrap_or}
use Rattle.frame_gate.specs.Admits.{IsAt, Answers, Commits, CommitsCuts}
use Rattle.frame_gate.specs.Packets.{NumberedPacket}
use Rattle.frame_gate.specs.Epochs.{frames_of}
use Rattle.frame_gate.specs.Watched.{Watch, watch_next, waited, most_waits, one_more_if, Waited, AnswersWait}
use Rattle.frame_gate.specs.inner.Kept.{Kept, PreparedOf, PreparedCutsOf}

-- what contracts see of a watched gate
pub record WatchedOf : Type 0 where
  pub gate : Kept
  pub marks : List ℕ
  pub answers : Bool
  pub frames : ℕ
  pub gaps : ℕ

-- as much as a count of 64 bits tells (own)
abbrev pub so_many : ℕ → ℕ
so_many n = min n (2 ^ 64 - 1)

-- what contracts see of a packet that is prepared
pub record PreparedPacketOf : Type 0 where
  pub prepared : PreparedOf
  pub answers : Bool

-- what contracts see of a wait that is prepared
pub record PreparedWaitOf : Type 0 where
  pub cuts : PreparedCutsOf
  pub nacks : List ℤ

-- The gate is where its epoch is, and has these marks. It counts the frames that it gave, and how often it gave up.
pub record Watches (k : WatchedOf) (w : Watch) : Type 0 where
  pub gate : IsAt k.gate w.epoch
  pub marks : k.marks ≡ w.marks
  pub answers : k.answers ≡ w.answers
  pub frames : k.frames ≡ so_many (length (frames_of w.epoch))
  pub gaps : k.gaps ≡ so_many w.gaps

-- Wherever the old gate is, this answers a wait, and the new one has had it.
abbrev pub Waits : WatchedOf → WatchedOf → Waited → Type 0
Waits old new a = (w : Watch) → Watches old w → AnswersWait w a × Watches new (waited w)

-- The cuts were placed, and the wait is remembered.
pub record CommitsWait (old : WatchedOf) (r : PreparedWaitOf) (new : WatchedOf) : Type 0 where
  pub gate : CommitsCuts old.gate r.cuts new.gate
  pub marks : new.marks ≡ take most_waits (unwrap_or old.gate.greatest 0 ∷ old.marks)
  pub answers : new.answers ≡ (old.answers && not r.cuts.answer.pli)
  pub frames : new.frames ≡ so_many (old.frames + length r.cuts.answer.frames)
  pub gaps : new.gaps ≡ so_many (one_more_if r.cuts.answer.pli old.gaps)

-- what will be answered
abbrev pub answer_in : PreparedWaitOf → Waited
answer_in r = record { frames = r.cuts.answer.frames; nacks = r.nacks; pli = r.cuts.answer.pli }

-- Once it is committed, the wait is answered.
abbrev pub PreparesWait : WatchedOf → PreparedWaitOf → Type 0
PreparesWait old r = (new : WatchedOf) → CommitsWait old r new → Waits old new (answer_in r)

-- The packet was taken in, and it is remembered whether the source answers.
pub record CommitsPacket (old : WatchedOf) (r : PreparedPacketOf) (new : WatchedOf) : Type 0 where
  pub gate : Commits old.gate r.prepared new.gate
  pub marks : new.marks ≡ old.marks
  pub answers : new.answers ≡ r.answers
  pub frames : new.frames ≡ so_many (old.frames + length r.prepared.answer.frames)
  pub gaps : new.gaps ≡ so_many (one_more_if r.prepared.answer.pli old.gaps)

-- Once it is committed, the packet is admitted.
abbrev pub PreparesPacket : WatchedOf → NumberedPacket → PreparedPacketOf → Type 0
PreparesPacket old p r =
    (new : WatchedOf) → CommitsPacket old r new → (w : Watch) → Watches old w
    → Answers w.epoch p r.prepared.answer × Watches new (watch_next w p)
