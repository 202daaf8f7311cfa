-- What is sent for one item, of what a law says of its step.
use Rattle.std.proofs.Common.{◌≡◌, List, [], ◌∷◌, ap, sym, subst}
use Rattle.std.specs.List.{AllByRecursion}
use Rattle.bridge_core.specs.Sent.{Sent}

abbrev pub first_or : {A : Type 0} → A → List A → A
first_or a [] = a
first_or a (b ∷ bs) = b

pub only : {A : Type 0} (a b : A) → a ∷ [] ≡ b ∷ [] → a ≡ b
only a b same = ap (first_or a) same

pub of_each : (P : Sent → Type 0) (sent : List Sent) (all : List (List Sent)) → sent ∷ [] ≡ all
    → AllByRecursion (AllByRecursion P) all → AllByRecursion P sent
of_each P sent all is each =
    (subst (λ (lists : List (List Sent)). AllByRecursion (AllByRecursion P) lists) (sym is) each).0
