-- The last call goes from one list to the other.
use Rattle.std.proofs.Common.{◌≡◌, ℕ, List, [], ◌∷◌, ◌++◌, refl, sym, ap, ◌∙◌}
use Rattle.desk_edit.specs.Asked.CallOf.{Undo, Redo}
use Rattle.desk_edit.specs.Calls.{front, final}
use Rattle.call_history.specs.AcceptedCall.{AcceptedOf}
use Rattle.call_history.specs.Lists.{ListsOf, with_call}

front_push : {X : Type 0} (xs : List X) (x : X) → front (xs ++ x ∷ []) ≡ xs
front_push [] x = refl
front_push (y ∷ []) x = refl
front_push (y ∷ z ∷ xs) x = ap (λ ys. y ∷ ys) (front_push (z ∷ xs) x)

final_push : {X : Type 0} (xs : List X) (x : X) → final (xs ++ x ∷ []) ≡ x ∷ []
final_push [] x = refl
final_push (y ∷ []) x = refl
final_push (y ∷ z ∷ xs) x = final_push (z ∷ xs) x

-- both lists
abbrev of_both : List AcceptedOf → List AcceptedOf → ListsOf
of_both done undone = record { done = done; undone = undone }

both : (a b c d : List AcceptedOf) → a ≡ b → c ≡ d → of_both a c ≡ of_both b d
both a b c d e f = cc

-- what an undo leaves
pub undone_one : (l : ListsOf) (less more : List AcceptedOf) (x made : AcceptedOf) (last : ℕ)
    → l.done ≡ less ++ x ∷ [] → more ≡ l.undone ++ x ∷ []
    → record { done = less; undone = more } ≡ with_call l (Undo last) made
undone_one l less more x made last popped pushed =
    let rest : less ≡ front l.done = sym (ap front popped ∙ front_push less x) in
    let end : final l.done ≡ x ∷ [] = ap final popped ∙ final_push less x in
    let all : more ≡ l.undone ++ final l.done = pushed ∙ ap (λ xs. l.undone ++ xs) (sym end) in
    both less (front l.done) more (l.undone ++ final l.done) rest all

-- what a redo leaves
pub redone_one : (l : ListsOf) (less more : List AcceptedOf) (x made : AcceptedOf) (last : ℕ)
    → l.undone ≡ less ++ x ∷ [] → more ≡ l.done ++ x ∷ []
    → record { done = more; undone = less } ≡ with_call l (Redo last) made
redone_one l less more x made last popped pushed =
    let rest : less ≡ front l.undone = sym (ap front popped ∙ front_push less x) in
    let end : final l.undone ≡ x ∷ [] = ap final popped ∙ final_push less x in
    let all : more ≡ l.done ++ final l.undone = pushed ∙ ap (λ xs. l.done ++ xs) (sym end) in
    both more (l.done ++ final l.undone) less (front l.undone) all rest
