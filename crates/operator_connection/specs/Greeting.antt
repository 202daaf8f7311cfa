-- What a connection without a seat is answered (own).
use Rattle.std.specs.Prelude.{◌≡◌, ◌++◌, ℕ, Bool, true, false, not, List, [], ◌∷◌}
use Rattle.operator_lines.specs.Openings.{opening_of, greeting_of}
use Rattle.operator_lines.specs.declared.answering.Next.TheVariants.{Quit}
use Rattle.operator_lines.specs.declared.greeting.Opening.TheVariants.{Faulty, Good}
use Rattle.operator_connection.specs.Talking.{after_line, refuses, Refuses}
use Rattle.operator_connection.specs.declared.greeting.Greeted.{Greeted}
use Rattle.operator_connection.specs.declared.greeting.Greeted.TheVariants as greeted
use Rattle.operator_connection.specs.declared.talking.LinkState.{LinkState}

-- The first line of a connection is dealt with without a seat. A good one changes nothing. Any other is answered by its
-- fault, and ends the connection.
abbrev pub GreetsLine : (is_good : Bool) → List ℕ → (before after : List ℕ) → (from to : LinkState) → Type 0
GreetsLine true line before after from to = (opening_of line ≡ Good) × (after ≡ before) × (to ≡ from)
GreetsLine false line before after from to =
    (opening_of line ≡ Faulty) × (after ≡ before ++ greeting_of line) × (to ≡ after_line Quit after)

-- the first of these lines is dealt with so, unless the bridge is stopped; those behind it are not
abbrev pub GreetsFirst :
    List (List ℕ) → Greeted → (before after : List ℕ) → (from to : LinkState) → Type 0
GreetsFirst lines greeted.Nothing before after from to = (lines ≡ []) × (after ≡ before) × (to ≡ from)
GreetsFirst lines greeted.Good before after from to =
    (line : List ℕ) × (behind : List (List ℕ)) × (lines ≡ line ∷ behind) × GreetsLine true line before after from to
GreetsFirst lines greeted.Faulty before after from to =
    (line : List ℕ) × (behind : List (List ℕ)) × (lines ≡ line ∷ behind) × GreetsLine false line before after from to
GreetsFirst lines greeted.Stopped before after from to = (after ≡ before) × (to ≡ from)

-- there was no line
abbrev pub has_none : Greeted → Bool
has_none greeted.Nothing = true
has_none greeted.Good = false
has_none greeted.Faulty = false
has_none greeted.Stopped = false

-- the first of these lines is dealt with so, and where there is none a line that is too long is refused
abbrev pub GreetsAll :
    List (List ℕ) → (is_too_long : Bool) → Greeted → (before after : List ℕ) → (from to : LinkState) → Type 0
GreetsAll lines is_too_long greeted before after from to =
    (between : List ℕ) × (standing : LinkState)
    × GreetsFirst lines greeted before between from standing
    × Refuses (refuses is_too_long (not (has_none greeted)) standing) between after standing to
