-- Lines that are answered one after another.
use Rattle.std.proofs.Common.{◌≡◌, ℕ, ◌+◌, ◌<◌, ◌≤◌, true, List, [], ◌∷◌, ◌++◌, length, take, drop, map, get_or, refl}
use Rattle.std.proofs.Common.{sym, ap}
use Rattle.std.proofs.Common.{◌∙◌, subst, rules}
use Rattle.std.proofs.lemmas.List.{take-map, map_more}
use Rattle.operator_lines.specs.Operators.{Replying, Showing, AnswersLine}
use Rattle.operator_lines.specs.declared.answering.Next.{Next}
use Rattle.operator_connection.specs.Talking.{AnswersLines, after_line, is_open}
use Rattle.operator_connection.specs.declared.talking.LinkState.{LinkState}
use Rattle.operator_connection.specs.declared.talking.LinkState.TheVariants.{Open, Ending, Lost, Stopping}

-- one line more, while the connection is open
pub answers_more : {D : Type 0} (replies : Replying D) (shows : Showing D) (lines : List (List ℕ)) (line : List ℕ)
    (old mid new : D) (before between after : List ℕ) (from : LinkState) (becomes : Next)
    → AnswersLines replies shows lines old mid before between from Open
    → AnswersLine replies shows mid new line between after becomes
    → AnswersLines replies shows (lines ++ line ∷ []) old new before after from (after_line becomes after)
answers_more {D = D} replies shows [] line old mid new before between after from becomes h k = (
  sym h.2,
  new,
  after,
  becomes,
  subst (λ (d : D). AnswersLine replies shows d new line before after becomes) h.0
      (subst (λ (b : List ℕ). AnswersLine replies shows mid new line b after becomes) h.1 k),
  (refl, refl, refl),
)
answers_more replies shows (l ∷ lines) line old mid new before between after from becomes h k = (
  h.0,
  h.1,
  h.2,
  h.3,
  h.4,
  answers_more replies shows lines line h.1 mid new h.2 between after (after_line h.3 h.2) becomes h.5 k,
)

pub taken_more : {X Y : Type 0} (f : X → Y) (xs : List X) (i : ℕ) (x : X) → i < length xs → x ≡ get_or xs i x
    → take (i + 1) (map f xs) ≡ take i (map f xs) ++ f x ∷ []
taken_more f xs i x less is =
    take-map f (i + 1) xs
    ∙ (map_more f xs i x less
    ∙ (ap (λ y. map f (take i xs) ++ f y ∷ []) (sym is) ∙ ap (λ l. l ++ f x ∷ []) (sym (take-map f i xs))))

-- one line more, of a list that holds lines
pub answers_step : {D X : Type 0} (replies : Replying D) (shows : Showing D) (f : X → List ℕ) (xs : List X) (i : ℕ)
    (x : X) (line : List ℕ) (old mid new : D) (before between after : List ℕ) (becomes : Next) (to : LinkState)
    → i < length xs → x ≡ get_or xs i x → line ≡ f x
    → AnswersLines replies shows (take i (map f xs)) old mid before between Open Open
    → AnswersLine replies shows mid new line between after becomes
    → to ≡ after_line becomes after
    → AnswersLines replies shows (take (i + 1) (map f xs)) old new before after Open to
answers_step replies shows f xs i x line old mid new before between after becomes to less is same h k e =
    subst (λ (ls : List (List ℕ)). AnswersLines replies shows ls old new before after Open to)
    (sym (taken_more f xs i x less is))
    (subst (λ (st : LinkState). AnswersLines replies shows (take i (map f xs) ++ f x ∷ []) old new before after Open st)
    (sym e)
    (answers_more replies shows (take i (map f xs)) (f x) old mid new before between after Open becomes h
    (subst (λ (l : List ℕ). AnswersLine replies shows mid new l between after becomes) same k)))

pub open_is : (s : LinkState) → is_open s ≡ true → s ≡ Open
open_is Open h = refl
open_is Ending h = search rules
open_is Lost h = search rules
open_is Stopping h = search rules

-- the first of some values
pub first_of : {X Y : Type 0} (f : X → Y) (xs : List X) (x : X) → 1 ≤ length xs → x ≡ get_or xs 0 x
    → map f xs ≡ f x ∷ map f (drop 1 xs)
first_of f [] x some is = search rules
first_of f (y ∷ ys) x some is = ap (λ z. f z ∷ map f ys) (sym is)
