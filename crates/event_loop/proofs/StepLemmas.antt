-- Single steps of a round.
use Rattle.std.proofs.Common.{◌≡◌, ◌<◌, ◌≤◌, ◌+◌, ℕ, Bool, true, false, List, [], ◌∷◌, ◌++◌, length, take, Option, Some}
use Rattle.std.proofs.Common.{Result, Ok, Err, OnOk, OnErr, IfOk, IsErr, refl, ap, sym, subst, ◌∙◌, arith}
use Rattle.std.proofs.Common.{length-append, inr, map, get_or}
use Rattle.std.specs.List.{AllByRecursion, flat_map}
use Rattle.std.specs.Result.{MatchResult}
use Rattle.std.proofs.lemmas.List.{append-nil, flat_map_more, map-append, take_more}
use Rattle.std.proofs.lemmas.Fn.{FoldsTo-push}
use Rattle.desk_rows.specs.Desk.{Desk}
use Rattle.published_desk.specs.Published.{NoticeOf, ReaderOf}
use Rattle.udp_wire.specs.Attempts.{Attempt}
use Rattle.udp_wire.specs.declared.ending.FrontFault.{FrontFault}
use Rattle.bridge_stats.specs.Stats.{StatsOf}
use Rattle.picture_requests.specs.declared.source.VideoSource.{VideoSource}
use Rattle.media_front.specs.Fronts.{FrontOf}
use Rattle.media_front.specs.Waits.{HaveWaited, HaveWaitedInPart, video_origins}
use Rattle.event_loop.specs.declared.kept.FrontKept.{FrontKept}
use Rattle.event_loop.specs.Came.{Came, datagram, other, nothing, came_by}
use Rattle.event_loop.specs.declared.inlet.Read.{Read}
use Rattle.event_loop.specs.declared.inlet.Read.TheVariants.{Datagram, Other, Nothing}
use Rattle.event_loop.specs.inner.Reading.{IsReadOnce, is_something}
use Rattle.event_loop.specs.Moments.{AreUpTo}
use Rattle.event_loop.specs.Turns.{Turn, History, history, Does, HaveDone, HasActed, owed, passed, looked, gave_ticks}
use Rattle.event_loop.specs.Turns.{let_wait, let_some_wait, asked_picture, made_report, judged_wake}
use Rattle.event_loop.specs.Kept.{asked_origin}
use Rattle.event_loop.specs.Shapes.{IsPassed, AreAllRead, most_datagrams, AsksDue, picture_at, waits, IsDue}
use Rattle.event_loop.specs.Shapes.{IsPassing, IsTakenIn, IsRound, IsRoundAfterSleep, AreRounds, BeginAsRounds, signals}
use Rattle.event_loop.proofs.TurnLemmas.{done_one, done_both, all_both}

-- ---- results

pub is_ok : {A B C : Type 0} (r : Result A B) → C → OnOk r C
is_ok (Ok a) k = k
is_ok (Err b) k = tt {0}

pub err_on_ok : {A B : Type 0} (C : Type 0) (r : Result A B) → IsErr r → OnOk r C
err_on_ok C (Ok a) wrong = absurd (cc (wrong))
err_on_ok C (Err b) wrong = tt {0}

pub on_ok_map : {A B C D : Type 0} (r : Result A B) → (C → D) → OnOk r C → OnOk r D
on_ok_map (Ok a) f k = f k
on_ok_map (Err b) f k = tt {0}

pub err_if_ok : {A B : Type 0} (P : A → Type 0) (r : Result A B) → IsErr r → IfOk r P
err_if_ok P (Ok a) wrong = absurd (cc (wrong))
err_if_ok P (Err b) wrong = tt {0}

pub if_ok_both : {A B : Type 0} {P Q R : A → Type 0} (r : Result A B) → ((x : A) → P x → Q x → R x)
    → IfOk r P → IfOk r Q → IfOk r R
if_ok_both (Ok a) f k l = f a k l
if_ok_both (Err b) f k l = tt {0}

pub if_ok_map : {A B : Type 0} {P Q : A → Type 0} (r : Result A B) → ((x : A) → P x → Q x) → IfOk r P → IfOk r Q
if_ok_map (Ok a) f k = f a k
if_ok_map (Err b) f k = tt {0}

-- of an error what holds in any case
pub err_match : {A B C : Type 0} (P : A → Type 0) (r : Result A B) → IsErr r → C → MatchResult r P (λ fault. C)
err_match P (Ok a) wrong k = absurd (cc (wrong))
err_match P (Err b) wrong k = k

-- what holds in any case holds on an error
pub on_err : {A B C : Type 0} (r : Result A B) → C → OnErr r C
on_err (Ok a) k = tt {0}
on_err (Err b) k = k

pub on_ok : {A B C : Type 0} (r : Result A B) (a : A) → r ≡ Ok a → OnOk r C → C
on_ok {A} {B} {C} r a is k = subst (λ (q : Result A B). OnOk q C) is k

-- ---- histories

pub looked_same : {P S : Type 0} (front : FrontOf P S) (one came : List Came) (told later : List ℕ)
    (tried : Option (List Attempt)) (last : ℕ) (stats : StatsOf) (kept : FrontKept) (moment : ℕ)
    → came ≡ one → AreUpTo moment told → later ≡ told ++ moment ∷ []
    → HaveDone (looked moment ∷ []) (history front one told tried last stats kept)
    (history front came later tried last stats kept)
looked_same front one came told later tried last stats kept moment same rising is =
    done_one (looked moment) (history front one told tried last stats kept)
    (history front came later tried last stats kept)
    (record {
      rising = rising;
      same =
          ap (λ (l : List Came). history front l later tried last stats kept) same
          ∙ ap (λ (l : List ℕ). history front one l tried last stats kept) is;
    })

pub passed_at : {P S : Type 0} (front : FrontOf P S) (one more : List Came) (told later : List ℕ)
    (tried : Option (List Attempt)) (last : ℕ) (stats : StatsOf) (kept : FrontKept) (came : Came)
    → more ≡ one ++ came ∷ [] → later ≡ told
    → HaveDone (passed came ∷ []) (history front one told tried last stats kept)
    (history front more later tried last stats kept)
passed_at front one more told later tried last stats kept came is same =
    done_one (passed came) (history front one told tried last stats kept)
    (history front more later tried last stats kept)
    (ap (λ (c : List Came). history front c later tried last stats kept) is
    ∙ ap (λ (t : List ℕ). history front (one ++ came ∷ []) t tried last stats kept) same)

-- ---- reads

pub passes_by : {P S : Type 0} (old new : History P S) (read : Read) (chunk : List ℕ)
    → Does old (passed (came_by read chunk)) new
    → (turns : List Turn) × HaveDone turns old new × IsReadOnce IsPassed (is_something read) turns
passes_by old new (Datagram from octets) chunk does =
    let came = datagram from (take octets chunk) in
    (passed came ∷ [], done_one (passed came) old new does, (came, tt, refl))
passes_by old new Other chunk does =
    (passed other ∷ [], done_one (passed other) old new does, (other, tt, refl))
passes_by old new Nothing chunk does = (passed nothing ∷ [], done_one (passed nothing) old new does, refl)

-- the turns of these reads
abbrev pub turns_of : List (List Turn) → List Turn
turns_of reads = flat_map (λ turns. turns) reads

-- one read more
pub read_one : (Is : List Turn → Type 0) (reads : List (List Turn)) (last : List Turn) (more : Bool) (n : ℕ)
    → AllByRecursion Is reads → length reads ≡ n → IsReadOnce Is more last → more ≡ true
    → AllByRecursion Is (reads ++ last ∷ []) × (length (reads ++ last ∷ []) ≡ n + 1)
read_one Is reads last false n all many one is = absurd (cc (is))
read_one Is reads last true n all many one is = (
  all_both Is reads (last ∷ []) all (one, tt),
  length-append reads (last ∷ []) ∙ ap (λ (k : ℕ). k + 1) many,
)

-- what was done with one read more
pub done_more : {P S : Type 0} (reads : List (List Turn)) (last : List Turn) (a b c : History P S)
    → HaveDone (turns_of reads) a b → HaveDone last b c → HaveDone (turns_of (reads ++ last ∷ [])) a c
done_more reads last a b c far next =
    subst (λ (l : List Turn). HaveDone l a c) (flat_map_more (λ (l : List Turn). l) [] reads last)
    (done_both (turns_of reads) last a b c far next)

-- nothing waited any more
pub read_dry : (Is : List Turn → Type 0) (reads : List (List Turn)) (last : List Turn) (more : Bool) (n : ℕ)
    → AllByRecursion Is reads → length reads ≡ n → n ≤ most_datagrams → IsReadOnce Is more last → more ≡ false
    → AreAllRead Is (turns_of reads ++ last)
read_dry Is reads last true n all many few one is = absurd (cc (is))
read_dry Is reads last false n all many few one is = record {
  reads = reads;
  each = all;
  few = subst (λ (k : ℕ). k ≤ most_datagrams) (sym many) few;
  dry = true;
  whole = λ wrong. absurd (cc (wrong));
  are = ap (λ (l : List Turn). turns_of reads ++ l) one;
}

-- as much was read as a round may
pub read_full : (Is : List Turn → Type 0) (reads : List (List Turn)) → AllByRecursion Is reads
    → length reads ≡ most_datagrams → AreAllRead Is (turns_of reads)
read_full Is reads all many = record {
  reads = reads;
  each = all;
  few = omega (arith, many);
  dry = false;
  whole = λ same. many;
  are = sym (append-nil (turns_of reads));
}

-- ---- what is due

pub waits_by : {P S : Type 0} (r : Result (Unit {0}) FrontFault) (desk : Desk) (moment : ℕ) (old new : History P S)
    → OnOk r (HaveWaited desk moment (video_origins desk) old.front new.front old.tried new.tried)
    → OnErr r (HaveWaitedInPart desk moment (video_origins desk) old.front new.front old.tried new.tried)
    → new.front ≡ record old.front {
      ingress = new.front.ingress;
      feed = new.front.feed;
      limiter = new.front.limiter;
      limited = new.front.limited;
    }
    → new.front.ingress.asker ≡ old.front.ingress.asker → HasActed old new
    → (turns : List Turn) × HaveDone turns old new × OnOk r (turns ≡ let_wait desk moment ∷ [])
waits_by (Ok u) desk moment old new ok err kept asker same = (
  let_wait desk moment ∷ [],
  done_one (let_wait desk moment) old new (record { waited = ok; kept = kept; asker = asker; same = same }),
  refl,
)
waits_by (Err e) desk moment old new ok err kept asker same = (
  let_some_wait desk moment ∷ [],
  done_one (let_some_wait desk moment) old new (record { waited = err; kept = kept; asker = asker; same = same }),
  tt {0},
)

pub are_due : (version : ℕ) (desk : Desk) (moment : ℕ) (beats pictures reports : List Turn) (due report : Bool)
    → beats ≡ gave_ticks due moment ∷ waits due desk moment → AsksDue version desk moment pictures
    → reports ≡ made_report report desk moment ∷ [] → IsDue version desk moment (beats ++ (pictures ++ reports))
are_due version desk moment beats pictures reports due report beat asked made = record {
  due = due;
  pictures = pictures;
  asked = asked;
  report = report;
  are =
      ap (λ (l : List Turn). l ++ (pictures ++ reports)) beat
      ∙ ap (λ (l : List Turn). (gave_ticks due moment ∷ waits due desk moment) ++ (pictures ++ l)) made;
}

-- ---- pictures

-- one picture more
pub pictures_more : {P S : Type 0} (moment : ℕ) (sources : List VideoSource) (i : ℕ) (d : VideoSource)
    (asked : List (VideoSource × Bool)) (sent : Bool) (last : List Turn) (a b c : History P S)
    → i < length sources → map (λ (p : VideoSource × Bool). p.0) asked ≡ take i sources
    → HaveDone (map (picture_at moment) asked) a b
    → last ≡ asked_picture (asked_origin (get_or sources i d)) moment sent ∷ [] → HaveDone last b c
    → (all : List (VideoSource × Bool)) × (map (λ (p : VideoSource × Bool). p.0) all ≡ take (i + 1) sources)
    × HaveDone (map (picture_at moment) all) a c
pictures_more moment sources i d asked sent last a b c low these far is next =
    let source : VideoSource = get_or sources i d in
    let one : VideoSource × Bool = (source, sent) in (
      asked ++ one ∷ [],
      map-append (λ (p : VideoSource × Bool). p.0) asked (one ∷ [])
          ∙ (ap (λ (l : List VideoSource). l ++ source ∷ []) these ∙ sym (take_more sources i d low)),
      subst (λ (l : List Turn). HaveDone l a c) (sym (map-append (picture_at moment) asked (one ∷ [])))
          (done_both (map (picture_at moment) asked) (picture_at moment one ∷ []) a b c far
          (subst (λ (l : List Turn). HaveDone l b c) is next)),
    )

-- ---- rounds

-- what was dropped, and then ticks
pub passing : (reads beats : List Turn) → AreAllRead IsPassed reads → (moment : ℕ) (due : Bool)
    → beats ≡ looked moment ∷ gave_ticks due moment ∷ [] → IsPassing (reads ++ beats)
passing reads beats read moment due is =
    record { reads = reads; read = read; moment = moment; due = due; are = ap (λ (l : List Turn). reads ++ l) is }

pub round_of : (notice : NoticeOf) (old new : Option ReaderOf) (entry woken : List Turn) → IsTakenIn old new entry
    → (wake : ℕ) (raised : Bool) → woken ≡ looked wake ∷ judged_wake wake raised ∷ signals raised
    → IsRound notice old new (owed notice ∷ (entry ++ woken))
round_of notice old new entry woken entered wake raised is = record {
  entry = entry;
  entered = entered;
  wake = wake;
  raised = raised;
  are = ap (λ (l : List Turn). owed notice ∷ (entry ++ l)) is;
}

-- one round more
pub rounds_more : (old mid new : Option ReaderOf) (turns slept round : List Turn) (moment : ℕ) (notice : NoticeOf)
    → AreRounds old mid turns → slept ≡ looked moment ∷ []
    → IsRound notice mid new round → AreRounds old new (turns ++ (slept ++ round))
rounds_more old mid new turns slept round moment notice all sleep one =
    let next : IsRoundAfterSleep mid (slept ++ round) new =
    record {
      slept = moment;
      notice = notice;
      rest = round;
      round = one;
      are = ap (λ (l : List Turn). l ++ round) sleep;
    } in (
      all.0 ++ (slept ++ round) ∷ [],
      ap (λ (l : List Turn). l ++ (slept ++ round)) all.1
          ∙ flat_map_more (λ (l : List Turn). l) [] all.0 (slept ++ round),
      FoldsTo-push IsRoundAfterSleep old all.0 mid (slept ++ round) new all.2 next,
    )

-- these are whole rounds, and nothing behind them
pub begin_all : (old new : Option ReaderOf) (turns : List Turn) → AreRounds old new turns → BeginAsRounds old turns
begin_all old new turns all = (turns, [], new, sym (append-nil turns), all)
