-- The commands of a group, part by part.
use Rattle.std.proofs.Common.{◌≡◌, ℕ, ◌+◌, List, [], ◌∷◌, ◌++◌, length, Result, Ok, Err, refl, sym, ap, ◌∙◌}
use Rattle.std.proofs.Common.{append_assoc}
use Rattle.std.proofs.lemmas.List.{append-nil}
use Rattle.desk_edit.specs.declared.command.Command.{Command}
use Rattle.desk_text.specs.declared.fault.Fault.{Fault}
use Rattle.desk_text.specs.declared.fault.ParseFault.{ParseFault}
use Rattle.desk_text.specs.declared.fault.ParseFault.TheVariants as errors
use Rattle.desk_text.specs.Words.{◌>>=◌, Fails}
use Rattle.desk_text.specs.Calls.{command_of, commands_of}

-- these commands, and then those that were read
abbrev pub behind : List Command → Result (List Command) (ℕ × Fault) → Result (List Command) (ℕ × Fault)
behind front (Ok commands) = Ok (front ++ commands)
behind front (Err e) = Err e

pub behind_none : (r : Result (List Command) (ℕ × Fault)) → r ≡ behind [] r
behind_none (Ok commands) = refl
behind_none (Err e) = refl

behind_more : (front : List Command) (command : Command) (r : Result (List Command) (ℕ × Fault))
    → behind front (behind (command ∷ []) r) ≡ behind (front ++ command ∷ []) r
behind_more front command (Ok commands) = ap Ok (sym (append_assoc front (command ∷ []) commands))
behind_more front command (Err e) = refl

first_command : (place : ℕ) (part : List (List ℕ)) (parts : List (List (List ℕ))) (command : Command)
    → command_of place part ≡ Ok command
    → commands_of place (part ∷ parts) ≡ behind (command ∷ []) (commands_of (place + length part + 1) parts)
unfolding commands_of
first_command place part parts command e = rw e (one_first (commands_of (place + length part + 1) parts) command)
  where
    one_first : (r : Result (List Command) (ℕ × Fault)) (command : Command)
        → (r >>= λ commands. Ok (command ∷ commands)) ≡ behind (command ∷ []) r
    one_first (Ok commands) command = refl
    one_first (Err e) command = refl

-- one command more
pub goes_on : (all : Result (List Command) (ℕ × Fault)) (front new : List Command) (place : ℕ) (part : List (List ℕ))
    (parts : List (List (List ℕ))) (command : Command)
    → all ≡ behind front (commands_of place (part ∷ parts)) → command_of place part ≡ Ok command
    → new ≡ front ++ command ∷ [] → all ≡ behind new (commands_of (place + length part + 1) parts)
goes_on all front new place part parts command so_far e is =
    so_far
    ∙ (ap (behind front) (first_command place part parts command e)
    ∙ (behind_more front command (commands_of (place + length part + 1) parts)
    ∙ ap (λ (t : List Command). behind t (commands_of (place + length part + 1) parts)) (sym is)))

first_fails : (place : ℕ) (part : List (List ℕ)) (parts : List (List (List ℕ))) (e : ℕ × Fault)
    → command_of place part ≡ Err e → commands_of place (part ∷ parts) ≡ Err e
unfolding commands_of
first_fails place part parts e h = rw h refl

-- a part's fault is that of the group
pub fails_on : (all : Result (List Command) (ℕ × Fault)) (front : List Command) (place : ℕ) (part : List (List ℕ))
    (parts : List (List (List ℕ))) (e : ParseFault)
    → all ≡ behind front (commands_of place (part ∷ parts)) → Fails e (command_of place part) → Fails e all
fails_on all front place part parts errors.OutOfMemory so_far h = tt
fails_on all front place part parts (errors.Line at fault) so_far h =
    so_far ∙ ap (behind front) (first_fails place part parts (at, fault) h)

-- no part is left
pub ends : (all : Result (List Command) (ℕ × Fault)) (front : List Command) (place : ℕ)
    → all ≡ behind front (commands_of place []) → all ≡ Ok front
unfolding commands_of
ends all front place so_far = so_far ∙ ap Ok (append-nil front)
