use Rattle.std.proofs.Common.{◌≡◌, ◌+◌, List, [], ◌∷◌, ◌++◌, length, suc, refl, sym, ap, ◌∙◌, arith}
use Rattle.std.proofs.lemmas.List.{length-append}
use Rattle.std.proofs.lemmas.Result.{on_ok_weaker}
use Rattle.desk_rows.specs.Exchange.{fits, is_apt, exchanged, after}
use Rattle.desk_rows.specs.Desk.{good}
use Rattle.worked_desk.proofs.undoing.redo.Goals as goal

-- which of two comes last
two_ends : {X : Type 0} (x y e : X) (xs : List X) → x ∷ y ∷ [] ≡ xs ++ e ∷ [] → (xs ≡ x ∷ []) × (e ≡ y)
two_ends x y e [] is = absurd cc
two_ends x y e (a ∷ []) is = (cc, cc)
two_ends x y e (a ∷ b ∷ xs) is =
    let long : 2 ≡ suc (suc (length xs + 1)) = ap length is ∙ ap suc (ap suc (length-append xs (e ∷ []))) in
    absurd (omega arith)

pub returns-clause-state : goal.returns-clause-state
unfolding after fits is_apt exchanged good
returns-clause-state c =
    on_ok_weaker c.redo.result
    (λ is.
    let ends = two_ends _ _ is.0 c.redo.new.self.undone (sym c.requires.undone ∙ is.1) in
    is.3 ∙ simp (c.requires.state, ends.1) refl)
    c.redo.ensures.ok

pub returns-clause-done : goal.returns-clause-done
returns-clause-done c =
    on_ok_weaker c.redo.result
    (λ is.
    let ends = two_ends _ _ is.0 c.redo.new.self.undone (sym c.requires.undone ∙ is.1) in
    is.2 ∙ simp (c.requires.done, ends.1) refl)
    c.redo.ensures.ok

pub returns-clause-undone : goal.returns-clause-undone
returns-clause-undone c =
    on_ok_weaker c.redo.result (λ is. (two_ends _ _ is.0 c.redo.new.self.undone (sym c.requires.undone ∙ is.1)).0)
    c.redo.ensures.ok
