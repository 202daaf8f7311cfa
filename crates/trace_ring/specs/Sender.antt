-- What a sender was given (own).
use Rattle.std.specs.Prelude.{◌≡◌, ◌⊎◌, List, [], ◌∷◌, ◌++◌, Option, Some, None}

-- A sender whose trace is whole was given one more item, or gave the trace up; one without a trace stays so.
abbrev pub IsHandedOn : {T : Type 0} → T → Option (List T) → Option (List T) → Type 0
IsHandedOn item None new = new ≡ None
IsHandedOn item (Some items) new = (new ≡ Some (items ++ item ∷ [])) ⊎ (new ≡ None)
