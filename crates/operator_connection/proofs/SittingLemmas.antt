-- Rounds of a connection, one after another.
use Rattle.std.proofs.Common.{Bool, true, false, List, [], ◌∷◌, ◌++◌, Option, Some, None, inl, inr, refl, sym, subst}
use Rattle.std.specs.List.{AllByRecursion, flat_map}
use Rattle.std.proofs.lemmas.Grind.{flat_map-append}
use Rattle.operator_lines.specs.Operators.{TimedReplying, Showing}
use Rattle.operator_connection.specs.Connection.{Heeded, Connection}
use Rattle.operator_connection.specs.Deeds.{Deed, SeatedDeed, AreDeeds, AreSeatedDeeds}
use Rattle.operator_connection.specs.Talks.{IsRoundAlone, HasWaitedFor, HasHadRounds, IsRoundSeated, HasSat, IsTurn}
use Rattle.operator_connection.specs.Talks.{IsStep}
use Rattle.operator_connection.proofs.CallerLemmas.{deeds_both, seated_both}

all_both : {X : Type 0} (P : X → Type 0) (xs ys : List X) → AllByRecursion P xs → AllByRecursion P ys
    → AllByRecursion P (xs ++ ys)
all_both P [] ys these those = those
all_both P (x ∷ xs) ys these those = (these.0, all_both P xs ys these.1 those)

pub waited_none : (a : Connection) → HasWaitedFor a a
waited_none a = ([], tt, refl)

pub waited_one : (deeds : List Deed) (a b : Connection) → IsRoundAlone deeds → AreDeeds deeds a b → HasWaitedFor a b
waited_one deeds a b is done = (deeds ∷ [], (is, tt), deeds_both deeds [] a b b done refl)

pub waited_both : (a b c : Connection) → HasWaitedFor a b → HasWaitedFor b c → HasWaitedFor a c
waited_both a b c g h = (
  g.0 ++ h.0,
  all_both IsRoundAlone g.0 h.0 g.1 h.1,
  subst (λ (deeds : List Deed). AreDeeds deeds a c) (sym (flat_map-append (λ deeds. deeds) g.0 h.0))
      (deeds_both (flat_map (λ deeds. deeds) g.0) (flat_map (λ deeds. deeds) h.0) a b c g.2 h.2),
)

pub had_one : (deeds : List Deed) (a b : Connection) → IsRoundAlone deeds → AreDeeds deeds a b → HasHadRounds a b
had_one deeds a b is done = (deeds, [], is, tt, deeds_both deeds [] a b b done refl)

pub had_waits : (a b : Connection) → HasHadRounds a b → HasWaitedFor a b
had_waits a b g = (g.0 ∷ g.1, (g.2, g.3), g.4)

pub had_more : (a b c : Connection) → HasHadRounds a b → HasWaitedFor b c → HasHadRounds a c
had_more a b c g h = (
  g.0,
  g.1 ++ h.0,
  g.2,
  all_both IsRoundAlone g.1 h.0 g.3 h.1,
  subst (λ (deeds : List Deed). AreDeeds deeds a c) (sym (flat_map-append (λ deeds. deeds) (g.0 ∷ g.1) h.0))
      (deeds_both (flat_map (λ deeds. deeds) (g.0 ∷ g.1)) (flat_map (λ deeds. deeds) h.0) a b c g.4 h.2),
)

pub sat_none : {D : Type 0} (replies : TimedReplying D) (shows : Showing D)
    (a : D × Connection) → HasSat replies shows a a
sat_none replies shows a = ([], tt, refl)

pub sat_one : {D : Type 0} (replies : TimedReplying D) (shows : Showing D)
    (deeds : List SeatedDeed) (a b : D × Connection)
    → IsRoundSeated deeds → AreSeatedDeeds replies shows deeds a b → HasSat replies shows a b
sat_one replies shows deeds a b is done = (deeds ∷ [], (is, tt), seated_both replies shows deeds [] a b b done refl)

pub sat_both : {D : Type 0} (replies : TimedReplying D) (shows : Showing D) (a b c : D × Connection)
    → HasSat replies shows a b → HasSat replies shows b c → HasSat replies shows a c
sat_both replies shows a b c g h = (
  g.0 ++ h.0,
  all_both IsRoundSeated g.0 h.0 g.1 h.1,
  subst (λ (deeds : List SeatedDeed). AreSeatedDeeds replies shows deeds a c)
      (sym (flat_map-append (λ deeds. deeds) g.0 h.0))
      (seated_both replies shows (flat_map (λ deeds. deeds) g.0) (flat_map (λ deeds. deeds) h.0) a b c g.2 h.2),
)

turn_is : (heeded : Option Heeded) (deeds : List SeatedDeed) → IsTurn heeded deeds → IsRoundSeated deeds
turn_is None deeds is = inl is
turn_is (Some heeded) deeds is = inr is

-- what a step did, whether the connection goes on or not
pub sat_step : {D : Type 0} (replies : TimedReplying D) (shows : Showing D) (goes_on : Bool) (heeded : Option Heeded)
    (deeds : List SeatedDeed) (a b c : D × Connection)
    → HasSat replies shows a b → IsStep goes_on heeded deeds → AreSeatedDeeds replies shows deeds b c
    → HasSat replies shows a c
sat_step replies shows true heeded deeds a b c g is done =
    sat_both replies shows a b c g (sat_one replies shows deeds b c (turn_is heeded deeds is) done)
sat_step {D} replies shows false heeded deeds a b c g is done =
    subst (λ (s : D × Connection). HasSat replies shows a s)
    (subst (λ (ds : List SeatedDeed). AreSeatedDeeds replies shows ds b c) is done) g
