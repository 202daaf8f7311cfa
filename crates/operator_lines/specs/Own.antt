-- How the lines begin that are no calls (own).
use Rattle.std.specs.Prelude.{ℕ, List, [], ◌∷◌, codes, Option}
use Rattle.std.specs.List.{find}
use Rattle.std.specs.Str.{bytes_eq}
use Rattle.operator_lines.specs.declared.own.Own.{Own}
use Rattle.operator_lines.specs.declared.own.Own.TheVariants as owns

-- how each is written
abbrev pub own_text : Own → List ℕ
own_text owns.Show = codes "show"
own_text owns.Groups = codes "groups"
own_text owns.History = codes "history"
own_text owns.Calls = codes "calls"
own_text owns.Stats = codes "stats"
own_text owns.Levels = codes "levels"
own_text owns.Watch = codes "watch"
own_text owns.As = codes "as"
own_text owns.Lease = codes "lease"
own_text owns.Why = codes "why"
own_text owns.Help = codes "help"
own_text owns.Quit = codes "quit"
own_text owns.Stop = codes "stop"

-- the words of those that tell of the connection, of the lease, and of those that end something
abbrev pub more_own : List Own
more_own = owns.As ∷ owns.Lease ∷ owns.Why ∷ owns.Help ∷ owns.Quit ∷ owns.Stop ∷ []

-- all of them
abbrev pub all_own : List Own
all_own =
    owns.Show ∷ owns.Groups ∷ owns.History ∷ owns.Calls ∷ owns.Stats ∷ owns.Levels ∷ owns.Watch ∷ more_own

-- the one that a word is
abbrev pub own_of : List ℕ → Option Own
own_of word = find (λ own. bytes_eq word (own_text own)) all_own

-- the one of these that a word is
abbrev pub more_of : List ℕ → Option Own
more_of word = find (λ own. bytes_eq word (own_text own)) more_own
