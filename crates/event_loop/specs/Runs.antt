-- Rounds of a front, one after another (own).
use Rattle.std.specs.Prelude.{ℕ, List, [], ◌∷◌, ◌++◌, Option}
use Rattle.published_desk.specs.Published.{ReaderOf}
use Rattle.event_loop.specs.Turns.{Turn, History, HaveDone, looked}
use Rattle.event_loop.specs.Shapes.{AreRounds, BeginAsRounds}

-- how far the rounds of a front are: none is under way, one has begun and the front has waited, or one had a fault
pub data RoundStage : Type 0 where
  Whole : RoundStage
  Begun : RoundStage
  Failed : RoundStage

-- a front and its history, and its reader of the published desk
pub record FrontAt (P S : Type 0) : Type 0 where
  pub history : History P S
  pub reader : Option ReaderOf

-- these two as one
abbrev pub front_at : {P S : Type 0} → History P S → Option ReaderOf → FrontAt P S
front_at history reader = record { history = history; reader = reader }

-- From the one to the other the front did whole rounds, one after another; or these, and it looked at its watch and
-- slept; or these, and a part of one that failed. It did nothing else.
abbrev pub HasRun : {P S : Type 0} → RoundStage → FrontAt P S → FrontAt P S → Type 0
HasRun Whole start now =
    (turns : List Turn) × HaveDone turns start.history now.history × AreRounds start.reader now.reader turns
HasRun Begun start now =
    (turns : List Turn) × (slept : ℕ)
    × HaveDone (turns ++ looked slept ∷ []) start.history now.history × AreRounds start.reader now.reader turns
HasRun Failed start now =
    (turns : List Turn) × HaveDone turns start.history now.history × BeginAsRounds start.reader turns
