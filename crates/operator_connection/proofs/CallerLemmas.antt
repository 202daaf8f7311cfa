-- What is done on a connection, one thing after another.
use Rattle.std.proofs.lemmas.Bool.Decides.{nat_tests}
use Rattle.std.proofs.Math.Seq.{take-length}
use Rattle.std.proofs.Common.{◌≡◌, ◌<◌, ◌-◌, ◌∙◌, ℕ, nat_lt, true, List, [], ◌∷◌, ◌++◌, length, take, drop, length-drop}
use Rattle.std.proofs.Common.{arith, rules, false, map, Option, Some, None, is_some, Result, Ok, Err, OnErr, refl, sym}
use Rattle.std.proofs.Common.{ap, subst, Bool, not}
use Rattle.operator_lines.specs.Operators.{TimedReplying, Showing}
use Rattle.operator_connection.specs.declared.talking.LinkState.{LinkState}
use Rattle.operator_connection.specs.declared.talking.LinkState.TheVariants.{Open, Ending, Lost, Stopping}
use Rattle.operator_lines.specs.declared.feeding.Fed.{Fed}
use Rattle.std.specs.declared.alloc.Global.{Global}
use Rattle.operator_connection.specs.Connection.{Connection, heeded_of}
use Rattle.operator_connection.specs.Deeds.{Deed, SeatedDeed, alone, AreDeeds, AreSeatedDeeds, HasHeard, HasWritten}
use Rattle.operator_connection.specs.Deeds.{HasToldNews}
use Rattle.operator_connection.specs.Deeds.{Beginning, deeds_begun, moment_of, greeted_at, heard_at, round_alone}
use Rattle.operator_connection.specs.Deeds.{round_seated, first_seated}
use Rattle.operator_connection.specs.Greeting.{GreetsFirst, has_none}
use Rattle.operator_connection.specs.declared.greeting.Greeted.{Greeted}
use Rattle.operator_connection.specs.declared.greeting.Greeted.TheVariants as greeted
use Rattle.operator_connection.specs.Talking.{since_stop}
use Rattle.operator_connection.specs.Talks.{IsTurn}

pub deeds_both : (xs ys : List Deed) (a b c : Connection) → AreDeeds xs a b → AreDeeds ys b c → AreDeeds (xs ++ ys) a c
deeds_both [] ys a b c g h = subst (λ (s : Connection). AreDeeds ys s c) (sym g) h
deeds_both (x ∷ xs) ys a b c g h = (g.0, g.1, deeds_both xs ys g.0 b c g.2 h)

pub seated_both : {D : Type 0} (replies : TimedReplying D) (shows : Showing D) (xs ys : List SeatedDeed)
    (a b c : D × Connection)
    → AreSeatedDeeds replies shows xs a b → AreSeatedDeeds replies shows ys b c
    → AreSeatedDeeds replies shows (xs ++ ys) a c
seated_both {D} replies shows [] ys a b c g h =
    subst (λ (s : D × Connection). AreSeatedDeeds replies shows ys s c) (sym g) h
seated_both replies shows (x ∷ xs) ys a b c g h = (g.0, g.1, seated_both replies shows xs ys g.0 b c g.2 h)

-- what is done without a desk is done with one that stays as it is
pub seated_alone : {D : Type 0} (replies : TimedReplying D) (shows : Showing D)
    (xs : List Deed) (d : D) (a b : Connection)
    → AreDeeds xs a b → AreSeatedDeeds replies shows (map alone xs) (d, a) (d, b)
seated_alone {D} replies shows [] d a b g = ap (λ (s : Connection). (d, s)) g
seated_alone replies shows (x ∷ xs) d a b g = ((d, g.0), (refl, g.1), seated_alone replies shows xs d g.0 b g.2)

-- ---- results

pub on_err : {A B C : Type 0} (r : Result A B) → C → OnErr r C
on_err (Ok a) k = tt {0}
on_err (Err b) k = k

both_false : (b : Bool) → b ≡ false → not b ≡ false → false ≡ true
both_false true e n = sym e
both_false false e n = sym n

-- where there was no line, nothing was told
pub same_by_none : (lines : List (List ℕ)) (g : Greeted) (before after : List ℕ) (from to : LinkState) (none : Bool)
    → none ≡ has_none g → not none ≡ false → GreetsFirst lines g before after from to → after ≡ before
same_by_none lines greeted.Nothing before after from to none is goes h = h.1
same_by_none lines greeted.Good before after from to none is goes h =
    absurd (let x : false ≡ true = both_false none is goes in cc)
same_by_none lines greeted.Faulty before after from to none is goes h =
    absurd (let x : false ≡ true = both_false none is goes in cc)
same_by_none lines greeted.Stopped before after from to none is goes h =
    absurd (let x : false ≡ true = both_false none is goes in cc)

-- what is left of a list, as a slice gives it
pub rest_is : {X : Type 0} (n : ℕ) (xs : List X) → take (length xs - n) (drop n xs) ≡ drop n xs
rest_is n xs = ap (λ (k : ℕ). take k (drop n xs)) (sym (length-drop n xs)) ∙ take-length (drop n xs)

pub positive : (n k : ℕ) → 0 < n → n ≡ k → nat_lt 0 k ≡ true
positive n k some same = grind (arith, nat_tests)

-- a stop that is noted when octets came just now changes no moment
pub stopped_at : (s : LinkState) (now since : ℕ) → since ≡ now → since_stop s now since ≡ now
stopped_at Open now since e = refl
stopped_at Ending now since e = refl
stopped_at Lost now since e = e
stopped_at Stopping now since e = e

-- ---- rounds

pub heard_turn : (h : Option (Fed Global)) (moment : Option ℕ) → is_some h ≡ true
    → IsTurn (heeded_of h) (first_seated moment)
heard_turn None moment e = search rules
heard_turn (Some heard) moment e = (moment, refl)

pub other_turn : (h : Option (Fed Global)) (beginning : Beginning) → is_some h ≡ false
    → IsTurn (heeded_of h) (round_seated beginning)
other_turn None beginning e = (beginning, refl)
other_turn (Some heard) beginning e = search rules

pub round_cut : {D : Type 0} (replies : TimedReplying D) (shows : Showing D)
    (b : Beginning) (d : D) (old new : Connection)
    → AreDeeds (deeds_begun b) old new → moment_of b ≡ None
    → AreSeatedDeeds replies shows (round_seated b) (d, old) (d, new)
round_cut replies shows b d old new h e =
    subst (λ (m : Option ℕ). AreSeatedDeeds replies shows (map alone (deeds_begun b) ++ heard_at m) (d, old) (d, new))
    (sym e)
    (seated_both replies shows (map alone (deeds_begun b)) [] (d, old) (d, new) (d, new)
    (seated_alone replies shows (deeds_begun b) d old new h) refl)

pub round_whole : {D : Type 0} (replies : TimedReplying D) (shows : Showing D)
    (b : Beginning) (moment : ℕ) (d d' d'' : D)
    (old mid more most new : Connection)
    → AreDeeds (deeds_begun b) old mid → moment_of b ≡ Some moment
    → HasHeard (replies moment) shows moment d d' mid more
    → HasToldNews (replies moment) d' d'' more most → HasWritten moment most new
    → AreSeatedDeeds replies shows (round_seated b) (d, old) (d'', new)
round_whole replies shows b moment d d' d'' old mid more most new h e heard told written =
    subst (λ (m : Option ℕ). AreSeatedDeeds replies shows (map alone (deeds_begun b) ++ heard_at m) (d, old) (d'', new))
    (sym e)
    (seated_both replies shows (map alone (deeds_begun b)) (heard_at (Some moment)) (d, old) (d, mid) (d'', new)
    (seated_alone replies shows (deeds_begun b) d old mid h)
    ((d', more), heard, ((d'', most), told, ((d'', new), (refl, written), refl))))

pub alone_cut : (b : Beginning) (old new : Connection) → AreDeeds (deeds_begun b) old new → moment_of b ≡ None
    → AreDeeds (round_alone b) old new
alone_cut b old new h e =
    subst (λ (m : Option ℕ). AreDeeds (deeds_begun b ++ greeted_at m) old new) (sym e)
    (deeds_both (deeds_begun b) [] old new new h refl)

pub alone_whole : (b : Beginning) (moment : ℕ) (old mid new : Connection)
    → AreDeeds (deeds_begun b) old mid → moment_of b ≡ Some moment → AreDeeds (greeted_at (Some moment)) mid new
    → AreDeeds (round_alone b) old new
alone_whole b moment old mid new h e more =
    subst (λ (m : Option ℕ). AreDeeds (deeds_begun b ++ greeted_at m) old new) (sym e)
    (deeds_both (deeds_begun b) (greeted_at (Some moment)) old mid new h more)
