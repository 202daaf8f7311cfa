-- Turns of a front, one after another.
use Rattle.std.proofs.Common.{◌≡◌, ℕ, List, [], ◌∷◌, ◌++◌, refl, ap, sym, subst, ◌∙◌, append_assoc}
use Rattle.std.specs.List.{flat_map, AllByRecursion}
use Rattle.std.proofs.lemmas.List.{append-nil}
use Rattle.event_loop.specs.Came.{Came}
use Rattle.event_loop.specs.Turns.{Turn, History, Does, HaveDone, owed, passed, took, lost, looked, gave_ticks}
use Rattle.event_loop.specs.Turns.{let_wait, let_some_wait, entered_desk, saw_desk, wanted_picture, chose_sources}
use Rattle.event_loop.specs.Turns.{asked_picture, made_report, judged_wake, signalled}
use Rattle.event_loop.specs.Tries.{came_in, moments_in}

pub done_both : {P S : Type 0} (xs ys : List Turn) (a b c : History P S) → HaveDone xs a b → HaveDone ys b c
    → HaveDone (xs ++ ys) a c
done_both {P} {S} [] ys a b c g h = subst (λ (s : History P S). HaveDone ys s c) (sym g) h
done_both (x ∷ xs) ys a b c g h = (g.0, g.1, done_both xs ys g.0 b c g.2 h)

pub done_one : {P S : Type 0} (t : Turn) (a b : History P S) → Does a t b → HaveDone (t ∷ []) a b
done_one t a b d = (b, d, refl)

pub all_both : {X : Type 0} (P : X → Type 0) (xs ys : List X) → AllByRecursion P xs → AllByRecursion P ys
    → AllByRecursion P (xs ++ ys)
all_both P [] ys these those = those
all_both P (x ∷ xs) ys these those = (these.0, all_both P xs ys these.1 those)

-- ---- what was read, and what the watch told

none : {X : Type 0} (xs : List X) → xs ≡ xs ++ []
none xs = sym (append-nil xs)

came_by_one : {P S : Type 0} (t : Turn) (old new : History P S) → Does old t new → new.came ≡ old.came ++ came_in t
came_by_one {P} {S} (owed notice) old new d = ap (λ (s : History P S). s.came) d ∙ none old.came
came_by_one {P} {S} (passed came) old new d = ap (λ (s : History P S). s.came) d
came_by_one (took late arrival outcome ended) old new d = d.read.came
came_by_one (lost late arrival) old new d = d.read.came
came_by_one {P} {S} (looked moment) old new d = ap (λ (s : History P S). s.came) d.same ∙ none old.came
came_by_one {P} {S} (gave_ticks due moment) old new d = ap (λ (s : History P S). s.came) d.same ∙ none old.came
came_by_one {P} {S} (let_wait desk moment) old new d = ap (λ (s : History P S). s.came) d.same ∙ none old.came
came_by_one {P} {S} (let_some_wait desk moment) old new d = ap (λ (s : History P S). s.came) d.same ∙ none old.came
came_by_one {P} {S} (entered_desk desk) old new d = ap (λ (s : History P S). s.came) d ∙ none old.came
came_by_one {P} {S} (saw_desk later version desk moment) old new d =
    ap (λ (s : History P S). s.came) d.same ∙ none old.came
came_by_one {P} {S} (wanted_picture source moment) old new d = ap (λ (s : History P S). s.came) d ∙ none old.came
came_by_one {P} {S} (chose_sources moment sources) old new d = ap (λ (s : History P S). s.came) d.same ∙ none old.came
came_by_one {P} {S} (asked_picture o moment sent) old new d = ap (λ (s : History P S). s.came) d.same ∙ none old.came
came_by_one {P} {S} (made_report due desk moment) old new d = ap (λ (s : History P S). s.came) d.same ∙ none old.came
came_by_one {P} {S} (judged_wake moment raised) old new d = ap (λ (s : History P S). s.came) d.same ∙ none old.came
came_by_one {P} {S} signalled old new d = ap (λ (s : History P S). s.came) d ∙ none old.came

pub came_by_all : {P S : Type 0} (turns : List Turn) (old new : History P S) → HaveDone turns old new
    → new.came ≡ old.came ++ flat_map came_in turns
came_by_all {P} {S} [] old new g = ap (λ (s : History P S). s.came) (sym g) ∙ none old.came
came_by_all (t ∷ ts) old new g =
    came_by_all ts g.0 new g.2
    ∙ (ap (λ (l : List Came). l ++ flat_map came_in ts) (came_by_one t old g.0 g.1)
    ∙ append_assoc old.came (came_in t) (flat_map came_in ts))

pub told_by_one : {P S : Type 0} (t : Turn) (old new : History P S) → Does old t new
    → new.told ≡ old.told ++ moments_in t
told_by_one {P} {S} (owed notice) old new d = ap (λ (s : History P S). s.told) d ∙ none old.told
told_by_one {P} {S} (passed came) old new d = ap (λ (s : History P S). s.told) d ∙ none old.told
told_by_one (took late arrival outcome ended) old new d = d.read.told
told_by_one (lost late arrival) old new d = d.read.told
told_by_one {P} {S} (looked moment) old new d = ap (λ (s : History P S). s.told) d.same
told_by_one {P} {S} (gave_ticks due moment) old new d = ap (λ (s : History P S). s.told) d.same ∙ none old.told
told_by_one {P} {S} (let_wait desk moment) old new d = ap (λ (s : History P S). s.told) d.same ∙ none old.told
told_by_one {P} {S} (let_some_wait desk moment) old new d = ap (λ (s : History P S). s.told) d.same ∙ none old.told
told_by_one {P} {S} (entered_desk desk) old new d = ap (λ (s : History P S). s.told) d ∙ none old.told
told_by_one {P} {S} (saw_desk later version desk moment) old new d =
    ap (λ (s : History P S). s.told) d.same ∙ none old.told
told_by_one {P} {S} (wanted_picture source moment) old new d = ap (λ (s : History P S). s.told) d ∙ none old.told
told_by_one {P} {S} (chose_sources moment sources) old new d = ap (λ (s : History P S). s.told) d.same ∙ none old.told
told_by_one {P} {S} (asked_picture o moment sent) old new d = ap (λ (s : History P S). s.told) d.same ∙ none old.told
told_by_one {P} {S} (made_report due desk moment) old new d = ap (λ (s : History P S). s.told) d.same ∙ none old.told
told_by_one {P} {S} (judged_wake moment raised) old new d = ap (λ (s : History P S). s.told) d.same ∙ none old.told
told_by_one {P} {S} signalled old new d = ap (λ (s : History P S). s.told) d ∙ none old.told

pub told_by_all : {P S : Type 0} (turns : List Turn) (old new : History P S) → HaveDone turns old new
    → new.told ≡ old.told ++ flat_map moments_in turns
told_by_all {P} {S} [] old new g = ap (λ (s : History P S). s.told) (sym g) ∙ none old.told
told_by_all (t ∷ ts) old new g =
    told_by_all ts g.0 new g.2
    ∙ (ap (λ (l : List ℕ). l ++ flat_map moments_in ts) (told_by_one t old g.0 g.1)
    ∙ append_assoc old.told (moments_in t) (flat_map moments_in ts))
