-- The rate of a room that is left out.
use Rattle.std.proofs.Common.{◌≡◌, ℕ, ◌+◌, List, [], ◌∷◌, ◌++◌, Option, Some, None, Ok, Err, refl, ap, ◌∙◌, codes}
use Rattle.desk_text.specs.declared.fault.Fault.TheVariants.{BadNumber}
use Rattle.desk_text.specs.declared.fault.ParseFault.{ParseFault}
use Rattle.desk_text.specs.declared.fault.ParseFault.TheVariants as errors
use Rattle.desk_text.specs.declared.value.Field.TheVariants as fields
use Rattle.desk_text.specs.declared.value.Value.{Value}
use Rattle.desk_text.specs.declared.value.Value.TheVariants as values
use Rattle.desk_text.specs.declared.name.Name.{Name}
use Rattle.desk_text.specs.declared.name.Name.TheVariants as names
use Rattle.desk_text.specs.Words.{◌>>=◌, Fails, value_or}
use Rattle.desk_text.specs.Values.{value_of, values_of}
use Rattle.desk_text.specs.Calls.{shape_of, with_rate}
use Rattle.desk_text.proofs.ValueSteps.{Reading}

-- what is read, with a rate of 8000 Hz behind it
abbrev pub at_8000 : Reading → Reading
at_8000 (Ok read) = Ok (read.0 ++ values.U32 8000 ∷ [], read.1)
at_8000 (Err e) = Err e

room_read : (place : ℕ) (room : Option Value)
    → (value_or place BadNumber room
    >>= λ value.
    values_of (place + 1) (fields.U32 ∷ []) (codes "8000" ∷ []) >>= λ others. Ok (value ∷ others.0, others.1))
    ≡ at_8000 (value_or place BadNumber room
    >>= λ value. values_of (place + 1) [] [] >>= λ others. Ok (value ∷ others.0, others.1))
unfolding values_of
room_read place None = refl
room_read place (Some value) = refl

-- a name and words behind it that are a room alone
abbrev pub IsAlone : Name → List (List ℕ) → Type 0
IsAlone name words = (room : List ℕ) × (name ≡ names.AddRoom) × (words ≡ room ∷ [])

-- a room alone is read as one with a rate of 8000 Hz
pub alone_read : (place : ℕ) (name : Name) (words : List (List ℕ)) → IsAlone name words
    → values_of place (shape_of name) (with_rate name words) ≡ at_8000 (values_of place (fields.U32 ∷ []) words)
unfolding values_of
alone_read place name words alone = rw (alone.1, alone.2) (room_read place (value_of fields.U32 alone.0))

-- its fault is told
pub alone_fails : (e : ParseFault) (place : ℕ) (name : Name) (words : List (List ℕ)) → IsAlone name words
    → Fails e (values_of place (fields.U32 ∷ []) words)
    → Fails e (values_of place (shape_of name) (with_rate name words))
alone_fails errors.OutOfMemory place name words alone h = tt
alone_fails (errors.Line at fault) place name words alone h = alone_read place name words alone ∙ ap at_8000 h
