-- What is learnt of a book from one that may be another: of another one nothing. Assumes `Logic`.
use Rattle.std.proofs.Common.{◌≡◌, ℕ, ◌==◌, Bool, true, false, List, [], ◌∷◌, refl, ap, arith}
use Rattle.std.proofs.lemmas.Bool.Decides.{nat_tests}
use mathlib.Core.List.{IsPrefix}
use seplogic.Ra.Ura.{Ura}
use base.Stored.{Coded}
use base.Logic.{SProp, ent, sep, ex, guard}
use types.Logic.{Logic, sem}
use types.Kit.{‵, some, given, later, ◌$◌, ◌∵◌, !, qed, keep, pick, learn, show, check, done}
use types.Kit.{use2, updating, await, now, rewrite}
use Rattle.logbook.specs.Pages.{Cell, Book}
use Rattle.logbook.specs.Kept.{Rules, reached, seen_owns}
use Rattle.logbook.proofs.Steps as steps

module _ {M : Type 1} {𝓤 : Ura M} (𝓛 : Logic 𝓤) {E : Type 0} (cv : Coded E) (rule : Rules E) (bk : Book)
    (names : List ℕ) where
  open 𝓛 use {H}

  -- the log has grown from what was seen; and from what the other had seen, if that is of the same book
  abbrev pub LearntIf : List E → Book → List E → List E → SProp 𝓤
  LearntIf x other y log =
      guard 𝓤 (other ≡ bk → IsPrefix x log × IsPrefix y log) (sem 𝓛 (seen_owns cv.code rule bk names log))

  learns_by : (x : List E) (other : Book) (y : List E) (b : Bool) → (other.log_name == bk.log_name) ≡ b
      → ent 𝓤 (sep 𝓤 (sem 𝓛 (seen_owns cv.code rule bk names x)) (sem 𝓛 (reached cv.code other.log_name y)))
      (H.⇛ (ex 𝓤 (LearntIf x other y)))
  learns_by x other y true is =
      let same : other.log_name ≡ bk.log_name = grind (arith, nat_tests) in
      qed 𝓛 (‵ (seen_owns cv.code rule bk names x) ∷ ‵ (reached cv.code other.log_name y) ∷ []) ∵ updating ! $
      rewrite ! 1 (λ (n : ℕ). ‵ (reached cv.code n y)) same refl $
      use2 𝓛
      (later
      (some
      (λ (log : List E).
      given (IsPrefix x log × IsPrefix y log × ((cs : List Cell) × rule.holds cs log))
      (‵ (seen_owns cv.code rule bk names log)))))
      (steps.learns 𝓛 cv rule bk names x y) $
      await ! tt $ pick ! (λ log. learn ! (λ so. now ! $ show ! (LearntIf x other y) log $
      check ! (λ (_ : other ≡ bk). (so.0, so.1)) $ done !))
  learns_by x other y false is =
      qed 𝓛 (‵ (seen_owns cv.code rule bk names x) ∷ ‵ (reached cv.code other.log_name y) ∷ []) ∵ updating ! $
      now ! $ keep ! (0 ∷ []) $ show ! (LearntIf x other y) x $
      check !
      (λ (same : other ≡ bk).
      let here : other.log_name ≡ bk.log_name = ap (λ (b : Book). b.log_name) same in
      absurd (grind (arith, nat_tests))) $
      done !

  pub learns_if : (x : List E) (other : Book) (y : List E)
      → ent 𝓤 (sep 𝓤 (sem 𝓛 (seen_owns cv.code rule bk names x)) (sem 𝓛 (reached cv.code other.log_name y)))
      (H.⇛ (ex 𝓤 (LearntIf x other y)))
  learns_if x other y = learns_by x other y (other.log_name == bk.log_name) refl
