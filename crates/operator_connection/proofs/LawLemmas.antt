-- Laws of what is done on a connection.
use Rattle.std.proofs.Common.{◌≡◌, ◌≤◌, ◌&&◌, ◌⊎◌, inl, inr, ℕ, nat_lt, true, false, Bool, List, [], ◌∷◌, ◌++◌, length}
use Rattle.std.proofs.Common.{take, drop, Option, Some, None, refl, sym, ap, subst, ◌∙◌, append_assoc, rules, arith}
use Rattle.std.proofs.lemmas.Bool.Decides.{nat_tests}
use Rattle.std.proofs.lemmas.Grind.{flat_map-append}
use Rattle.std.proofs.lemmas.List.{append-nil, take-append-drop, take-append-le}
use Rattle.std.specs.Bool.{MatchBool}
use Rattle.operator_lines.specs.Fed.{Kept, StandsFor}
use Rattle.operator_lines.specs.Operators.{Replying, TimedReplying, Showing, busy_line}
use Rattle.operator_lines.specs.Outbound.{piece}
use Rattle.operator_connection.proofs.TalkLemmas.{open_is}
use Rattle.operator_connection.specs.Acts.{Act, waited, looked, read, wrote, read_by, written_by, all_read, all_written}
use Rattle.operator_connection.specs.Acts.{octet_count}
use Rattle.operator_connection.specs.Connection.{Connection, IsLost, HasWaited, HasLooked, NotesStop, HasRead}
use Rattle.operator_connection.specs.Connection.{IsHeardAt, Heeded, is_heard, is_owed}
use Rattle.operator_connection.specs.Deeds.{HasOffered, HasWritten, GreetsPiece, LosesGreeting, HasGreeted, RefusesOpen}
use Rattle.operator_connection.specs.Deeds.{RefusesSeat}
use Rattle.operator_connection.specs.Deeds.{AnswersPiece, LosesPiece, HasHeard, AnswersHeeded, HasAnswered}
use Rattle.operator_connection.specs.Deeds.{Deed, waits, looks, stops, greets, refuses, writes, IsDeed, AreDeeds}
use Rattle.operator_connection.specs.Deeds.{SeatedDeed, alone, answers, hears, tells, IsSeatedDeed, AreSeatedDeeds}
use Rattle.operator_connection.specs.Deeds.{TellsOpen, HasToldNews}
use Rattle.operator_lines.specs.Openings.{greeting_of}
use Rattle.operator_connection.specs.Greeting.{GreetsFirst, GreetsAll}
use Rattle.operator_connection.specs.Talking.{AnswersLines, AnswersAll, AnswersOctets, AnswersSome, BreaksOff, Refuses}
use Rattle.operator_connection.specs.Talking.{after_stop, after_read, after_write, left_after, is_open}
use Rattle.operator_connection.specs.Talks.{Grown, all_appended, IsStream, GoesOn, StaysEnded}
use Rattle.operator_connection.specs.declared.greeting.Greeted.{Greeted}
use Rattle.operator_connection.specs.declared.greeting.Greeted.TheVariants as greeted
use Rattle.operator_connection.specs.declared.talking.Came.{Came}
use Rattle.operator_connection.specs.declared.talking.Came.TheVariants as came
use Rattle.operator_connection.specs.declared.talking.LinkState.{LinkState}
use Rattle.operator_connection.specs.declared.talking.LinkState.TheVariants.{Open, Ending, Lost, Stopping}

-- ---- what is done is one thing more

pub read_waited : (acts : List Act) (longest : ℕ) (any : Bool)
    → all_read (acts ++ waited longest any ∷ []) ≡ all_read acts
read_waited acts longest any = flat_map-append read_by acts (waited longest any ∷ []) ∙ append-nil (all_read acts)

pub read_looked : (acts : List Act) (moment : ℕ) → all_read (acts ++ looked moment ∷ []) ≡ all_read acts
read_looked acts moment = flat_map-append read_by acts (looked moment ∷ []) ∙ append-nil (all_read acts)

pub read_wrote : (acts : List Act) (came : Came) (octets : List ℕ)
    → all_read (acts ++ wrote came octets ∷ []) ≡ all_read acts
read_wrote acts came octets = flat_map-append read_by acts (wrote came octets ∷ []) ∙ append-nil (all_read acts)

pub read_more : (acts : List Act) (came : Came) (octets : List ℕ)
    → all_read (acts ++ read came octets ∷ []) ≡ all_read acts ++ octets
read_more acts came octets =
    flat_map-append read_by acts (read came octets ∷ []) ∙ ap (λ l. all_read acts ++ l) (append-nil octets)

pub written_waited : (acts : List Act) (longest : ℕ) (any : Bool)
    → all_written (acts ++ waited longest any ∷ []) ≡ all_written acts
written_waited acts longest any =
    flat_map-append written_by acts (waited longest any ∷ []) ∙ append-nil (all_written acts)

pub written_looked : (acts : List Act) (moment : ℕ) → all_written (acts ++ looked moment ∷ []) ≡ all_written acts
written_looked acts moment = flat_map-append written_by acts (looked moment ∷ []) ∙ append-nil (all_written acts)

pub written_read : (acts : List Act) (came : Came) (octets : List ℕ)
    → all_written (acts ++ read came octets ∷ []) ≡ all_written acts
written_read acts came octets = flat_map-append written_by acts (read came octets ∷ []) ∙ append-nil (all_written acts)

pub written_more : (acts : List Act) (came : Came) (octets : List ℕ)
    → all_written (acts ++ wrote came octets ∷ []) ≡ all_written acts ++ take (octet_count came) octets
written_more acts came octets =
    flat_map-append written_by acts (wrote came octets ∷ [])
    ∙ ap (λ l. all_written acts ++ l) (append-nil (take (octet_count came) octets))

-- ---- octets are appended

pub grown_none : (xs ys : List ℕ) → ys ≡ xs → Grown xs ys
grown_none xs ys e = ([], e ∙ sym (append-nil xs))

pub grown_both : (xs ys zs : List ℕ) → Grown xs ys → Grown ys zs → Grown xs zs
grown_both xs ys zs g h = (g.0 ++ h.0, h.1 ∙ (ap (λ l. l ++ h.0) g.1 ∙ append_assoc xs g.0 h.0))

-- behind what was written
pub grown_behind : (ws ws' xs ys : List ℕ) → ws' ≡ ws → Grown xs ys → Grown (ws ++ xs) (ws' ++ ys)
grown_behind ws ws' xs ys e g = (g.0, ap (λ l. l ++ ys) e ∙ (ap (λ l. ws ++ l) g.1 ∙ sym (append_assoc ws xs g.0)))

pub lines_grow : {D : Type 0} (replies : Replying D) (shows : Showing D) (lines : List (List ℕ)) (old new : D)
    (before after : List ℕ) (from to : LinkState)
    → AnswersLines replies shows lines old new before after from to → Grown before after
lines_grow replies shows [] old new before after from to h = grown_none before after h.1
lines_grow replies shows (line ∷ lines) old new before after from to h =
    grown_both before h.2 after (h.4.0, h.4.1) (lines_grow replies shows lines h.1 new h.2 after _ to h.5)

pub refusal_grows : (b : Bool) (before after : List ℕ) (from to : LinkState) → Refuses b before after from to
    → Grown before after
refusal_grows true before after from to h = (_, h.0)
refusal_grows false before after from to h = grown_none before after h.0

pub all_grow : {D : Type 0} (replies : Replying D) (shows : Showing D) (lines : List (List ℕ)) (long : Bool)
    (old new : D) (before after : List ℕ) (to : LinkState) (stopped : Bool)
    → AnswersAll replies shows lines long old new before after to stopped → Grown before after
all_grow replies shows lines long old new before after to stopped h =
    grown_both before h.0 after (lines_grow replies shows _ old new before h.0 _ h.1 h.2.1)
    (refusal_grows _ h.0 after h.1 to h.3)

pub some_grow : {D : Type 0} (replies : Replying D) (shows : Showing D) (lines : List (List ℕ)) (old : D)
    (before after : List ℕ)
    → AnswersSome replies shows lines old before after → Grown before after
some_grow replies shows lines old before after h = lines_grow replies shows _ old h.1 before after _ h.2 h.3

pub octets_grow : {D : Type 0} (replies : Replying D) (shows : Showing D) (stream octets : List ℕ) (old new : D)
    (before after : List ℕ) (to : LinkState) (stopped : Bool)
    → AnswersOctets replies shows stream octets old new before after to stopped → Grown before after
octets_grow replies shows stream octets old new before after to stopped h =
    all_grow replies shows h.0 h.1 old new before after to stopped h.3

pub broken_grow : {D : Type 0} (replies : Replying D) (shows : Showing D) (stream octets : List ℕ) (old : D)
    (before after : List ℕ)
    → BreaksOff replies shows stream octets old before after → Grown before after
broken_grow replies shows stream octets old before after (inl same) = grown_none before after same
broken_grow replies shows stream octets old before after (inr h) = some_grow replies shows h.0 old before after h.3

-- what is written was offered, and no octet of what waits is lost or written twice
pub taken : (k most : ℕ) (xs : List ℕ) → k ≤ length (take most xs) → take k (take most xs) ++ drop k xs ≡ xs
taken k most xs few =
    ap (λ l. l ++ drop k xs)
    (sym (take-append-le k (take most xs) (drop most xs) few) ∙ ap (take k) (take-append-drop most xs))
    ∙ take-append-drop k xs

first_greeting_grows : (lines : List (List ℕ)) (g : Greeted) (before after : List ℕ) (from to : LinkState)
    → GreetsFirst lines g before after from to → Grown before after
first_greeting_grows lines greeted.Nothing before after from to h = grown_none before after h.1
first_greeting_grows lines greeted.Good before after from to h = grown_none before after h.3.1
first_greeting_grows lines greeted.Faulty before after from to h = (greeting_of h.0, h.3.1)
first_greeting_grows lines greeted.Stopped before after from to h = grown_none before after h.0

pub all_greetings_grow : (lines : List (List ℕ)) (long : Bool) (g : Greeted) (before after : List ℕ)
    (from to : LinkState)
    → GreetsAll lines long g before after from to → Grown before after
all_greetings_grow lines long g before after from to h =
    grown_both before h.0 after (first_greeting_grows lines g before h.0 from h.1 h.2)
    (refusal_grows _ h.0 after h.1 to h.3)

-- ---- one thing that is done

not_open : (s : LinkState) → s ≡ Open → s ≡ Lost → {X : Type 0} → X
not_open s opened lost = absurd (let e : Open ≡ Lost = sym opened ∙ lost in (search rules))

after_stop_ends : (s : LinkState) → after_stop s ≡ Open → {X : Type 0} → X
after_stop_ends Open h = absurd (search rules)
after_stop_ends Ending h = absurd (search rules)
after_stop_ends Lost h = absurd (search rules)
after_stop_ends Stopping h = absurd (search rules)

-- nothing was read or written, and the state is the same or no longer opened
quiet : (old new : Connection) → IsStream old → (new.standing ≡ Open → old.standing ≡ Open) → new.kept ≡ old.kept
    → all_read new.acts ≡ all_read old.acts → all_written new.acts ≡ all_written old.acts
    → Grown old.waiting new.waiting
    → GoesOn old new
quiet old new s opens kept was put more = record {
  stream = λ opened. subst (λ (k : Kept). StandsFor k (all_read new.acts)) (sym kept)
      (subst (λ (l : List ℕ). StandsFor old.kept l) (sym was) (s (opens opened)));
  grown = grown_behind _ _ _ _ put more;
}

lost_goes_on : (old new : Connection) → IsStream old → IsLost old new → GoesOn old new
lost_goes_on old new s h =
    quiet old new s (λ opened. not_open new.standing opened h.standing) h.silent.kept (ap all_read h.acts)
    (ap all_written h.acts)
    (grown_none _ _ h.silent.waiting)

waits_goes_on : (any : Option Bool) (old new : Connection) → IsStream old → HasWaited any old new → GoesOn old new
waits_goes_on None old new s h = lost_goes_on old new s h
waits_goes_on (Some any) old new s h =
    quiet old new s (λ opened. sym h.standing ∙ opened) h.silent.kept (ap all_read h.acts ∙ read_waited old.acts _ any)
    (ap all_written h.acts ∙ written_waited old.acts _ any) (grown_none _ _ h.silent.waiting)

looks_goes_on : (moment : Option ℕ) (old new : Connection) → IsStream old → HasLooked moment old new → GoesOn old new
looks_goes_on None old new s h = lost_goes_on old new s h
looks_goes_on (Some moment) old new s h =
    quiet old new s (λ opened. sym h.standing ∙ opened) h.silent.kept (ap all_read h.acts ∙ read_looked old.acts moment)
    (ap all_written h.acts ∙ written_looked old.acts moment) (grown_none _ _ h.silent.waiting)

stops_goes_on : (moment : ℕ) (old new : Connection) → IsStream old → NotesStop moment old new → GoesOn old new
stops_goes_on moment old new s h =
    quiet old new s (λ opened. after_stop_ends old.standing (sym h.standing ∙ opened)) h.silent.kept
    (ap all_read h.acts)
    (ap all_written h.acts) (grown_none _ _ h.silent.waiting)

cases : (b : Bool) {P Q R : Type 0} → MatchBool b P Q → (b ≡ true → P → R) → (b ≡ false → Q → R) → R
cases true h f g = f refl h
cases false h f g = g refl h

same_goes_on : (old new : Connection) → IsStream old → new ≡ old → GoesOn old new
same_goes_on old new s e =
    subst (λ (c : Connection). GoesOn old c) (sym e) (record { stream = s; grown = grown_none _ _ refl })

-- one thing after another
pub goes_on_both : (a b c : Connection) → GoesOn a b → GoesOn b c → GoesOn a c
goes_on_both a b c g h = record { stream = h.stream; grown = grown_both _ _ _ g.grown h.grown }

ends_not_open : (c : Came) (s : LinkState) → after_read c s ≡ Open → s ≡ Open
ends_not_open (came.Octets n) s h = h
ends_not_open came.End s h = absurd (search rules)
ends_not_open came.Later s h = h
ends_not_open came.Again s h = h
ends_not_open came.Failed s h = absurd (search rules)

-- a read that brought these octets, of which nothing was heard yet
record Brought (octets : List ℕ) (old mid : Connection) : Type 0 where
  pub stands : old.standing ≡ Open → StandsFor mid.kept (all_read old.acts)
  pub read : all_read mid.acts ≡ all_read old.acts ++ octets
  pub told : all_appended mid ≡ all_appended old
  pub opened : mid.standing ≡ Open → old.standing ≡ Open

read_brings : (c : Came) (octets : List ℕ) (moment : ℕ) (old mid : Connection) → IsStream old
    → HasRead c octets moment old mid
    → Brought octets old mid
read_brings c octets moment old mid s h = record {
  stands = λ opened. subst (λ (k : Kept). StandsFor k (all_read old.acts)) (sym h.silent.kept) (s opened);
  read = ap all_read h.acts ∙ read_more old.acts c octets;
  told =
      ap (λ l. l ++ mid.waiting) (ap all_written h.acts ∙ written_read old.acts c octets)
      ∙ ap (λ l. all_written old.acts ++ l) h.silent.waiting;
  opened = λ opened. ends_not_open c old.standing (sym h.standing ∙ opened);
}

-- without octets nothing is heard
read_goes_on : (c : Came) (octets : List ℕ) (moment : ℕ) (old mid new : Connection) → IsStream old
    → HasRead c octets moment old mid
    → octets ≡ [] → new ≡ mid → GoesOn old new
read_goes_on c octets moment old mid new s h none e =
    let b = read_brings c octets moment old mid s h in
    subst (λ (x : Connection). GoesOn old x) (sym e) (record {
      stream = λ opened. subst (λ (l : List ℕ). StandsFor mid.kept l)
          (sym (b.read ∙ (ap (λ l. all_read old.acts ++ l) none ∙ append-nil (all_read old.acts))))
          (b.stands (b.opened opened));
      grown = grown_none _ _ b.told;
    })

no_octets : (octets : List ℕ) (n : ℕ) → length octets ≡ n → nat_lt 0 n ≡ false → octets ≡ []
no_octets [] n e f = refl
no_octets (x ∷ xs) n e f = absurd (grind (arith, nat_tests))

is_open_heard : (c : Connection) → c.ready.readable && is_heard c ≡ true → c.standing ≡ Open
is_open_heard c h = open_is c.standing (search rules)

grown_from : (old mid new : Connection) → all_appended mid ≡ all_appended old → new.acts ≡ mid.acts
    → Grown mid.waiting new.waiting → Grown (all_appended old) (all_appended new)
grown_from old mid new e same g =
    subst (λ (l : List ℕ). Grown l (all_appended new)) e
    (grown_behind (all_written mid.acts) (all_written new.acts) mid.waiting new.waiting (ap all_written same) g)

answered_goes_on : {D : Type 0} (replies : Replying D) (shows : Showing D) (octets : List ℕ) (moment : ℕ) (d d' : D)
    (old mid new : Connection)
    → Brought octets old mid → old.standing ≡ Open → IsHeardAt moment mid new
    → AnswersPiece replies shows octets d d' mid new ⊎ LosesPiece replies shows octets d mid new → GoesOn old new
answered_goes_on replies shows octets moment d d' old mid new b opened at (inl a) = record {
  stream = λ still.
      subst (λ (l : List ℕ). StandsFor new.kept l) (sym (ap all_read at.acts ∙ b.read))
      (a.stands (all_read old.acts) (b.stands opened));
  grown = grown_from old mid new b.told at.acts
      (octets_grow replies shows (all_read old.acts) octets d d' mid.waiting new.waiting a.standing a.stopped
      (a.answers (all_read old.acts) (b.stands opened)));
}
answered_goes_on replies shows octets moment d d' old mid new b opened at (inr l) = record {
  stream = λ still. not_open new.standing still l.lost;
  grown = grown_from old mid new b.told at.acts
      (broken_grow replies shows (all_read old.acts) octets d mid.waiting new.waiting
      (l.broke (all_read old.acts) (b.stands opened)));
}

greeted_goes_on : (octets : List ℕ) (moment : ℕ) (old mid new : Connection)
    → Brought octets old mid → old.standing ≡ Open → IsHeardAt moment mid new
    → GreetsPiece octets mid new ⊎ LosesGreeting mid new → GoesOn old new
greeted_goes_on octets moment old mid new b opened at (inl a) = record {
  stream = λ still.
      subst (λ (l : List ℕ). StandsFor new.kept l) (sym (ap all_read at.acts ∙ b.read))
      (a.stands (all_read old.acts) (b.stands opened));
  grown =
      grown_from old mid new b.told at.acts
      (all_greetings_grow a.lines a.too_long a.greeted mid.waiting new.waiting mid.standing a.standing a.greets);
}
greeted_goes_on octets moment old mid new b opened at (inr l) = record {
  stream = λ still. not_open new.standing still l.lost;
  grown = grown_from old mid new b.told at.acts
      (grown_none mid.waiting new.waiting l.waiting);
}

greets_goes_on : (moment : ℕ) (old new : Connection) → IsStream old → HasGreeted moment old new → GoesOn old new
greets_goes_on moment old new s h = cases (old.ready.readable && is_heard old) h
    (λ e r. cases (nat_lt 0 (octet_count r.came)) r.greets
    (λ more p.
    greeted_goes_on r.octets moment old r.mid new (read_brings r.came r.octets moment old r.mid s r.read)
    (is_open_heard old e) p.at p.greeted)
    (λ none q.
    read_goes_on r.came r.octets moment old r.mid new s r.read
    (no_octets r.octets (octet_count r.came) r.read.count none) q))
    (λ e q. same_goes_on old new s q)

hears_goes_on : {D : Type 0} (replies : Replying D) (shows : Showing D) (moment : ℕ) (d d' : D) (old new : Connection)
    → IsStream old
    → HasHeard replies shows moment d d' old new → GoesOn old new
hears_goes_on replies shows moment d d' old new s h = cases (old.ready.readable && is_heard old) h
    (λ e r. cases (nat_lt 0 (octet_count r.came)) r.hears
    (λ more p.
    answered_goes_on replies shows r.octets moment d d' old r.mid new
    (read_brings r.came r.octets moment old r.mid s r.read) (is_open_heard old e) p.at p.heard)
    (λ none q.
    read_goes_on r.came r.octets moment old r.mid new s r.read
    (no_octets r.octets (octet_count r.came) r.read.count none) q.1))
    (λ e q. same_goes_on old new s q.1)

heeded_grow : {D : Type 0} (replies : Replying D) (shows : Showing D) (h : Heeded) (d d' : D) (old new : Connection)
    → AnswersHeeded replies shows h d d' old new → Grown old.waiting new.waiting
heeded_grow replies shows h d d' old new (inl a) =
    all_grow replies shows h.lines h.too_long d d' old.waiting new.waiting a.1 a.0 a.2
heeded_grow replies shows h d d' old new (inr l) = some_grow replies shows h.lines d old.waiting new.waiting l.0

answers_goes_on : {D : Type 0} (replies : Replying D) (shows : Showing D) (moment : ℕ) (h : Option Heeded) (d d' : D)
    (old new : Connection)
    → IsStream old → HasAnswered replies shows moment h d d' old new → GoesOn old new
answers_goes_on replies shows moment None d d' old new s p = same_goes_on old new s p.1
answers_goes_on replies shows moment (Some h) d d' old new s t = cases (is_open old.standing) t.said
    (λ e p.
    quiet old new s (λ still. open_is old.standing e) t.kept (ap all_read t.acts) (ap all_written t.acts)
    (heeded_grow replies shows h d d' old new p.0))
    (λ e q.
    quiet old new s (λ still. sym q.2 ∙ still) t.kept (ap all_read t.acts) (ap all_written t.acts) (grown_none _ _ q.1))

refused_grows : (old new : Connection) → RefusesOpen old new → Grown old.waiting new.waiting
refused_grows old new (inl t) = (busy_line, t.0)
refused_grows old new (inr t) = grown_none _ _ t.0

refuses_goes_on : (moment : ℕ) (old new : Connection) → IsStream old → RefusesSeat moment old new → GoesOn old new
refuses_goes_on moment old new s r = cases (is_open old.standing) r.told
    (λ e p.
    quiet old new s (λ still. open_is old.standing e) r.kept (ap all_read r.acts) (ap all_written r.acts)
    (refused_grows old new p.0))
    (λ e q.
    quiet old new s (λ still. sym q.1 ∙ still) r.kept (ap all_read r.acts) (ap all_written r.acts) (grown_none _ _ q.0))

write_not_open : (c : Came) (s : LinkState) → after_write c s ≡ Open → s ≡ Open
write_not_open (came.Octets n) s h = h
write_not_open came.End s h = absurd (search rules)
write_not_open came.Later s h = h
write_not_open came.Again s h = h
write_not_open came.Failed s h = absurd (search rules)

whole : (c : Came) (w : List ℕ) → octet_count c ≤ length (take piece w)
    → take (octet_count c) (take piece w) ++ left_after c w ≡ w
whole (came.Octets n) w few = taken n piece w few
whole came.End w few = refl
whole came.Later w few = refl
whole came.Again w few = refl
whole came.Failed w few = refl

offered_goes_on : (moment : ℕ) (old new : Connection) → IsStream old → HasOffered moment old new → GoesOn old new
offered_goes_on moment old new s w = record {
  stream = λ still. subst (λ (k : Kept). StandsFor k (all_read new.acts)) (sym w.kept)
      (subst (λ (l : List ℕ). StandsFor old.kept l) (sym (ap all_read w.acts ∙ read_wrote old.acts w.came _))
      (s (write_not_open w.came old.standing (sym w.standing ∙ still))));
  grown = grown_none _ _
      (ap (λ l. l ++ new.waiting) (ap all_written w.acts ∙ written_more old.acts w.came _)
      ∙ (append_assoc (all_written old.acts) _ new.waiting
      ∙ ap (λ l. all_written old.acts ++ l)
      (ap (λ l. take (octet_count w.came) (take piece old.waiting) ++ l) w.waiting ∙ whole w.came old.waiting w.few)));
}

writes_goes_on : (moment : ℕ) (old new : Connection) → IsStream old → HasWritten moment old new → GoesOn old new
writes_goes_on moment old new s h = cases (old.ready.writable && is_owed old) h
    (λ e w. offered_goes_on moment old new s w) (λ e q. same_goes_on old new s q)

news_grow : {D : Type 0} (replies : Replying D) (d d' : D) (old new : Connection) → TellsOpen replies d d' old new
    → Grown old.waiting new.waiting
news_grow replies d d' old new (inl t) = (t.0.0, t.0.1)
news_grow replies d d' old new (inr t) = grown_none _ _ t.0

tells_goes_on : {D : Type 0} (replies : Replying D) (d d' : D) (old new : Connection) → IsStream old
    → HasToldNews replies d d' old new → GoesOn old new
tells_goes_on replies d d' old new s t = cases (is_open old.standing) t.told
    (λ e p.
    quiet old new s (λ still. open_is old.standing e) t.kept (ap all_read t.acts) (ap all_written t.acts)
    (news_grow replies d d' old new p))
    (λ e q.
    quiet old new s (λ still. sym q.2 ∙ still) t.kept (ap all_read t.acts) (ap all_written t.acts) (grown_none _ _ q.1))

-- ---- any number of things that are done

deed_goes_on : (deed : Deed) (old new : Connection) → IsStream old → IsDeed old deed new → GoesOn old new
deed_goes_on (waits any) old new s h = waits_goes_on any old new s h
deed_goes_on (looks moment) old new s h = looks_goes_on moment old new s h
deed_goes_on (stops moment) old new s h = stops_goes_on moment old new s h
deed_goes_on (greets moment) old new s h = greets_goes_on moment old new s h
deed_goes_on (refuses moment) old new s h = refuses_goes_on moment old new s h
deed_goes_on (writes moment) old new s h = writes_goes_on moment old new s h

pub deeds_go_on : (deeds : List Deed) (old new : Connection) → IsStream old → AreDeeds deeds old new → GoesOn old new
deeds_go_on [] old new s h = same_goes_on old new s (sym h)
deeds_go_on (deed ∷ deeds) old new s h =
    let one = deed_goes_on deed old h.0 s h.1 in goes_on_both old h.0 new one (deeds_go_on deeds h.0 new one.stream h.2)

seated_goes_on : {D : Type 0} (replies : TimedReplying D) (shows : Showing D) (deed : SeatedDeed)
    (old new : D × Connection)
    → IsStream old.1
    → IsSeatedDeed replies shows old deed new → GoesOn old.1 new.1
seated_goes_on replies shows (alone deed) old new s h = deed_goes_on deed old.1 new.1 s h.1
seated_goes_on replies shows (answers moment) old new s h =
    answers_goes_on (replies moment) shows moment old.1.heeded old.0 new.0 old.1 new.1 s h
seated_goes_on replies shows (hears moment) old new s h =
    hears_goes_on (replies moment) shows moment old.0 new.0 old.1 new.1 s h
seated_goes_on replies shows (tells moment) old new s h = tells_goes_on (replies moment) old.0 new.0 old.1 new.1 s h

pub seated_go_on : {D : Type 0} (replies : TimedReplying D) (shows : Showing D) (deeds : List SeatedDeed)
    (old new : D × Connection)
    → IsStream old.1
    → AreSeatedDeeds replies shows deeds old new → GoesOn old.1 new.1
seated_go_on {D} replies shows [] old new s h = same_goes_on old.1 new.1 s (ap (λ (p : D × Connection). p.1) (sym h))
seated_go_on replies shows (deed ∷ deeds) old new s h =
    let one = seated_goes_on replies shows deed old h.0 s h.1 in
    goes_on_both old.1 h.0.1 new.1 one (seated_go_on replies shows deeds h.0 new one.stream h.2)

-- ---- after the end

ended_by_stop : (s : LinkState) → is_open (after_stop s) ≡ false
ended_by_stop Open = refl
ended_by_stop Ending = refl
ended_by_stop Lost = refl
ended_by_stop Stopping = refl

ended_by_write : (c : Came) (s : LinkState) → is_open s ≡ false → is_open (after_write c s) ≡ false
ended_by_write (came.Octets n) s e = e
ended_by_write came.End s e = refl
ended_by_write came.Later s e = e
ended_by_write came.Again s e = e
ended_by_write came.Failed s e = refl

closed : (c : Connection) → is_open c.standing ≡ false → c.ready.readable && is_heard c ≡ true → {X : Type 0} → X
closed c e h = absurd (search rules)

ended_as : (old new : Connection) (s : LinkState) → new.standing ≡ s → is_open s ≡ false
    → all_read new.acts ≡ all_read old.acts → StaysEnded old new
ended_as old new s same e got = record { ended = ap is_open same ∙ e; read = got }

ended_same : (old new : Connection) → is_open old.standing ≡ false → new ≡ old → StaysEnded old new
ended_same old new e same =
    record {
      ended = ap (λ (c : Connection). is_open c.standing) same ∙ e;
      read = ap (λ (c : Connection). all_read c.acts) same;
    }

wait_ends : (any : Option Bool) (old new : Connection) → is_open old.standing ≡ false → HasWaited any old new
    → StaysEnded old new
wait_ends None old new e h = ended_as old new Lost h.standing refl (ap all_read h.acts)
wait_ends (Some any) old new e h =
    ended_as old new old.standing h.standing e (ap all_read h.acts ∙ read_waited old.acts _ any)

look_ends : (moment : Option ℕ) (old new : Connection) → is_open old.standing ≡ false → HasLooked moment old new
    → StaysEnded old new
look_ends None old new e h = ended_as old new Lost h.standing refl (ap all_read h.acts)
look_ends (Some moment) old new e h =
    ended_as old new old.standing h.standing e (ap all_read h.acts ∙ read_looked old.acts moment)

deed_ends : (deed : Deed) (old new : Connection) → is_open old.standing ≡ false → IsDeed old deed new
    → StaysEnded old new
deed_ends (waits any) old new e h = wait_ends any old new e h
deed_ends (looks moment) old new e h = look_ends moment old new e h
deed_ends (stops moment) old new e h =
    ended_as old new (after_stop old.standing) h.standing (ended_by_stop old.standing) (ap all_read h.acts)
deed_ends (greets moment) old new e h =
    cases (old.ready.readable && is_heard old) h (λ may r. closed old e may) (λ may q. ended_same old new e q)
deed_ends (refuses moment) old new e h = cases (is_open old.standing) h.told
    (λ opened p. absurd (let u : true ≡ false = sym opened ∙ e in (search rules)))
    (λ opened q. ended_as old new old.standing q.1 e (ap all_read h.acts))
deed_ends (writes moment) old new e h = cases (old.ready.writable && is_owed old) h
    (λ may w.
    ended_as old new (after_write w.came old.standing) w.standing (ended_by_write w.came old.standing e)
    (ap all_read w.acts ∙ read_wrote old.acts w.came _))
    (λ may q. ended_same old new e q)

answer_ends : {D : Type 0} (replies : Replying D) (shows : Showing D) (moment : ℕ) (h : Option Heeded) (d d' : D)
    (old new : Connection)
    → is_open old.standing ≡ false → HasAnswered replies shows moment h d d' old new → (d' ≡ d) × StaysEnded old new
answer_ends replies shows moment None d d' old new e p = (p.0, ended_same old new e p.1)
answer_ends replies shows moment (Some h) d d' old new e t = cases (is_open old.standing) t.said
    (λ opened p. absurd (let u : true ≡ false = sym opened ∙ e in (search rules)))
    (λ opened q. (q.0, ended_as old new old.standing q.2 e (ap all_read t.acts)))

seated_ends : {D : Type 0} (replies : TimedReplying D) (shows : Showing D) (deed : SeatedDeed)
    (old new : D × Connection)
    → is_open old.1.standing ≡ false → IsSeatedDeed replies shows old deed new
    → (new.0 ≡ old.0) × StaysEnded old.1 new.1
seated_ends replies shows (alone deed) old new e h = (h.0, deed_ends deed old.1 new.1 e h.1)
seated_ends replies shows (answers moment) old new e h =
    answer_ends (replies moment) shows moment old.1.heeded old.0 new.0 old.1 new.1 e h
seated_ends replies shows (hears moment) old new e h = cases (old.1.ready.readable && is_heard old.1) h
    (λ may r. closed old.1 e may) (λ may q. (q.0, ended_same old.1 new.1 e q.1))
seated_ends replies shows (tells moment) old new e t = cases (is_open old.1.standing) t.told
    (λ opened p. absurd (let u : true ≡ false = sym opened ∙ e in (search rules)))
    (λ opened q. (q.0, ended_as old.1 new.1 old.1.standing q.2 e (ap all_read t.acts)))

pub seated_end : {D : Type 0} (replies : TimedReplying D) (shows : Showing D) (deeds : List SeatedDeed)
    (old new : D × Connection)
    → is_open old.1.standing ≡ false → AreSeatedDeeds replies shows deeds old new
    → (new.0 ≡ old.0) × StaysEnded old.1 new.1
seated_end {D} replies shows [] old new e h =
    (ap (λ (p : D × Connection). p.0) (sym h), ended_same old.1 new.1 e (ap (λ (p : D × Connection). p.1) (sym h)))
seated_end replies shows (deed ∷ deeds) old new e h =
    let one = seated_ends replies shows deed old h.0 e h.1 in
    let more = seated_end replies shows deeds h.0 new one.1.ended h.2 in
    (more.0 ∙ one.0, record { ended = more.1.ended; read = more.1.read ∙ one.1.read })
