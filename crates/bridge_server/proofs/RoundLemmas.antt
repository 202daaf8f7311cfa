-- A front that does rounds, one after another.
use Rattle.std.proofs.Common.{◌≡◌, ◌∙◌, ℕ, ◌+◌, ◌-◌, ◌<◌, List, [], ◌∷◌, Option, Some, None, Result, Ok}
use Rattle.std.proofs.Common.{Err, OnErr, refl, ap, sym, subst, inl, inr, arith}
use Rattle.std.specs.Result.{MatchResult}
use Rattle.std.specs.List.{FoldsTo}
use Rattle.std.proofs.lemmas.List.{append-nil}
use Rattle.logbook.specs.Pages.{Book}
use Rattle.desk_rows.specs.Desk.{Desk}
use Rattle.sender_feedback.specs.Upstream.{Asker}
use Rattle.published_desk.specs.Published.{ReaderOf}
use Rattle.media_front.specs.Fronts.{FrontOf}
use Rattle.event_loop.specs.Runs.{FrontAt, front_at, HasRun, Whole, Begun, Failed}
use Rattle.event_loop.specs.Shapes.{IsTakenIn, IsRoundAfterSleep}
use Rattle.event_loop.specs.Turns.{Turn, History}
use Rattle.event_loop.specs.declared.running.BegunRound.{BegunRound}
use Rattle.bridge_server.specs.inner.Running.{HasComeTo, HasLeft}
use Rattle.bridge_server.specs.declared.stopped.FrontLeft.{FrontLeft}

-- ---- rounds

-- whole rounds are a beginning of rounds
whole_fails : {P S : Type 0} (first : FrontAt P S) (now : History P S) → HasRun Whole first (front_at now None)
    → HasRun Failed first (front_at now None)
whole_fails first now ran = (ran.0, ran.1, (ran.0, [], None, sym (append-nil ran.0), ran.2))

-- a round that has begun
pub began_well : {P S : Type 0} (first : FrontAt P S) (old new : History P S) (before after : Option ReaderOf)
    (begun : Option BegunRound) (round : BegunRound) → after ≡ None → (before ≡ None → ⊥)
    → (HasRun Whole first (front_at old before) → HasRun Begun first (front_at new (Some round.reader)))
    → HasComeTo first old before begun → HasComeTo first new after (Some round)
began_well first old new (Some reader) after None round out at_hand run come =
    subst (λ (r : Option ReaderOf). HasComeTo first new r (Some round)) (sym out) (run come)
began_well first old new (Some reader) after (Some other) round out at_hand run come = absurd come
began_well first old new None after begun round out at_hand run come = absurd (at_hand refl)

-- one that has not
pub began_badly : {P S : Type 0} (first : FrontAt P S) (old new : History P S) (before after : Option ReaderOf)
    (begun : Option BegunRound) → after ≡ None → (before ≡ None → new ≡ old)
    → (HasRun Whole first (front_at old before) → HasRun Failed first (front_at new after))
    → HasComeTo first old before begun → HasComeTo first new after begun
began_badly {P} {S} first old new (Some reader) after None out same run come =
    subst (λ (r : Option ReaderOf). HasComeTo first new r None) (sym out)
    (subst (λ (r : Option ReaderOf). HasRun Failed first (front_at new r)) out (run come))
began_badly first old new (Some reader) after (Some other) out same run come = absurd come
began_badly {P} {S} first old new None after None out same run come =
    subst (λ (r : Option ReaderOf). HasComeTo first new r None) (sym out)
    (subst (λ (h : History P S). HasRun Failed first (front_at h None)) (sym (same refl)) come)
began_badly {P} {S} first old new None after (Some round) out same run come =
    subst (λ (r : Option ReaderOf). HasComeTo first new r (Some round)) (sym out)
    (subst (λ (h : History P S). HasRun Begun first (front_at h (Some round.reader))) (sym (same refl)) come)

-- the round that has begun, which alone is under way
pub under_way : {P S : Type 0} (first : FrontAt P S) (now : History P S) (reader : Option ReaderOf) (round : BegunRound)
    → HasComeTo first now reader (Some round) → HasRun Begun first (front_at now (Some round.reader))
under_way first now (Some reader) round come = absurd come
under_way first now None round come = come

-- a round that has ended
pub ended_well : {P S : Type 0} (first : FrontAt P S) (new : History P S) (after : Option ReaderOf)
    → HasRun Whole first (front_at new after) → HasComeTo first new after None
ended_well first new (Some reader) ran = ran
ended_well first new None ran = whole_fails first new ran

-- one that has failed
pub ended_badly : {P S : Type 0} (first : FrontAt P S) (new : History P S) (after : Option ReaderOf) → after ≡ None
    → HasRun Failed first (front_at new after) → HasComeTo first new after None
ended_badly first new (Some reader) out ran = absurd (cc (out))
ended_badly first new None out ran = ran

-- either
pub ended : {P S E : Type 0} (result : Result (Unit {0}) E) (first : FrontAt P S) (new : History P S)
    (after : Option ReaderOf)
    → MatchResult result (λ done. HasRun Whole first (front_at new after))
    (λ fault. HasRun Failed first (front_at new after))
    → OnErr result (after ≡ None) → HasComeTo first new after None
ended (Ok done) first new after ran over = ended_well first new after ran
ended (Err fault) first new after ran over = ended_badly first new after over ran

-- a front that has done nothing yet
pub begins : {P S : Type 0} (now : History P S) (reader : Option ReaderOf) (known : ReaderOf) → reader ≡ Some known
    → HasComeTo (front_at now reader) now reader None
begins now (Some reader) known is = ([], refl, ([], refl, refl))
begins now None known is = absurd (cc (is))

-- the last place
pub last_below : (n m k : ℕ) → n ≡ m → n ≡ k + 1 → n - 1 < m
last_below n m k same many = omega (arith, same, many)

pub some_below : (n k : ℕ) → n ≡ k + 1 → 0 < n
some_below n k many = omega (arith, many)

-- a front whose reader is at hand has done whole rounds
pub at_hand : {P S : Type 0} (first : FrontAt P S) (now : History P S) (reader : Option ReaderOf)
    (begun : Option BegunRound) (known : ReaderOf) → HasComeTo first now reader begun → reader ≡ Some known
    → HasRun Whole first (front_at now (Some known))
at_hand first now (Some reader) None known come is =
    subst (λ (r : Option ReaderOf). HasRun Whole first (front_at now r)) is come
at_hand first now (Some reader) (Some round) known come is = absurd come
at_hand first now None begun known come is = absurd (cc (is))

-- ---- its reader

abbrev pub IsOf : Book → Option ReaderOf → Type 0
IsOf publisher (Some reader) = reader.publisher ≡ publisher
IsOf publisher None = ⊥

one_round : (publisher : Book) (old new : Option ReaderOf) (entry : List Turn) → IsTakenIn old new entry
    → IsOf publisher old → IsOf publisher new
one_round publisher None new entry taken is = absurd is
one_round publisher (Some old) None entry taken is = absurd taken
one_round publisher (Some old) (Some new) entry (inl taken) is = taken.0.0 ∙ is
one_round publisher (Some old) (Some new) entry (inr passed) is =
    ap (λ (r : ReaderOf). r.publisher) passed.0 ∙ is

all_rounds : (publisher : Book) (rounds : List (List Turn)) (old new : Option ReaderOf)
    → FoldsTo IsRoundAfterSleep old rounds new → IsOf publisher old → IsOf publisher new
all_rounds publisher [] old new done is = subst (IsOf publisher) done is
all_rounds publisher (round ∷ rounds) old new done is =
    all_rounds publisher rounds done.0 new done.2
    (one_round publisher old done.0 _ done.1.round.entered is)

-- it stays that of its publisher
pub reads : {P S : Type 0} (who : Asker) (start : Desk) (publisher : Book) (front : FrontOf P S) (reader : ReaderOf)
    (left : FrontLeft) → HasLeft who start publisher front reader left → reader.publisher ≡ publisher
reads who start publisher front reader left has =
    all_rounds publisher (has.ran.2).0 (has.first).reader (Some reader) (has.ran.2).2
    (subst (IsOf publisher) (sym has.fresh.reader) refl)
