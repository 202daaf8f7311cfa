-- What one call of a source or a sink gave.
use Rattle.std.specs.Prelude.{ℕ, zero, suc, ◌<◌, ◌≤◌, List, [], length, take, Option, Result, Ok, Err}
use Rattle.std.specs.Io.KnownBytes.{Appends, Consumes, IsAtEnd, Keeps}
use Rattle.std.specs.IoError.{error_kind}
use Rattle.std.specs.declared.io.Error.{Error}
use Rattle.std.specs.declared.io.ErrorKind.{ErrorKind}
use Rattle.std.specs.declared.io.ErrorKind.TheVariants as kinds
use Rattle.script_text.specs.declared.source.Piece.{Piece}
use Rattle.script_text.specs.declared.source.Piece.TheVariants as pieces
use Rattle.script_text.specs.declared.sink.Portion.{Portion}
use Rattle.script_text.specs.declared.sink.Portion.TheVariants as portions

-- what a call of a source gave, and what it did to the octets that the source still has
abbrev pub IsPiece : Option (List ℕ) → Option (List ℕ) → List ℕ → Piece → Type 0
IsPiece old new chunk (pieces.Octets n) = (n ≤ length chunk) × Consumes old new (take n chunk)
IsPiece old new chunk pieces.End = Consumes old new [] × IsAtEnd new
IsPiece old new chunk other = Consumes old new []

-- what a call of a sink took of these octets, and what the sink held before and holds now
abbrev pub IsPortion : List ℕ → Option (List ℕ) → Option (List ℕ) → Portion → Type 0
IsPortion octets before now (portions.Octets n) = (n ≤ length octets) × Appends before now (take n octets)
IsPortion octets before now other = Keeps before now

-- what a reader's error is
abbrev pub failed_piece : ErrorKind → Piece
failed_piece kinds.Interrupted = pieces.Interrupted
failed_piece kinds.OutOfMemory = pieces.OutOfMemory
failed_piece _ = pieces.Failed

-- what a reader's answer is
abbrev pub piece_of : Result ℕ Error → Piece
piece_of (Ok zero) = pieces.End
piece_of (Ok (suc n)) = pieces.Octets (suc n)
piece_of (Err e) = failed_piece (error_kind e)

-- what a writer's error is
abbrev pub failed_portion : ErrorKind → Portion
failed_portion kinds.Interrupted = portions.Interrupted
failed_portion kinds.OutOfMemory = portions.OutOfMemory
failed_portion _ = portions.Failed

-- what a writer's answer is: one that takes nothing has failed
abbrev pub portion_of : Result ℕ Error → Portion
portion_of (Ok zero) = portions.Failed
portion_of (Ok (suc n)) = portions.Octets (suc n)
portion_of (Err e) = failed_portion (error_kind e)

-- a call of a sink for these octets left something to be taken, and did not fail
abbrev pub IsLeft : List ℕ → Portion → Type 0
IsLeft octets (portions.Octets n) = n < length octets
IsLeft octets portions.Interrupted = Unit {0}
IsLeft octets portions.OutOfMemory = ⊥
IsLeft octets portions.Failed = ⊥
