-- Whole rounds ask for pictures in time, so that requests to one source are half a second apart.
use Rattle.std.proofs.Common.{◌≡◌, ◌∙◌, ℕ, Bool, true, false, ◌||◌, List, [], ◌∷◌, ◌++◌, map, Option, Some, None}
use Rattle.std.proofs.Common.{length, refl, ap, sym, subst, inl, inr}
use Rattle.std.specs.List.{FoldsTo, flat_map}
use Rattle.desk_rows.specs.Desk.{Desk}
use Rattle.published_desk.specs.Published.{ReaderOf, after_lists, NoticeOf}
use Rattle.picture_requests.specs.declared.source.VideoSource.{VideoSource}
use Rattle.picture_requests.specs.Sources.{same_source, is_among}
use Rattle.picture_requests.specs.Requests.{RequestsOf, no_requests, due as due_sources}
use Rattle.picture_requests.specs.Steps.{see, ask, after_step, IsAskedInTime, AreApart}
use Rattle.picture_requests.proofs.Apart.{apart, StandsOnce, due_once, due_still}
use Rattle.event_loop.specs.Turns.{Turn, History, HaveDone, owed, looked, gave_ticks, entered_desk, saw_desk}
use Rattle.event_loop.specs.Turns.{chose_sources, made_report, judged_wake}
use Rattle.event_loop.specs.Shapes.{IsTaken, IsPassed, waits, picture_at, AreAsked, AsksDue, IsDue, IsTaking, IsPassing}
use Rattle.event_loop.specs.Shapes.{IsTakenIn, signals, IsRound, IsRoundAfterSleep, AreRounds}
use Rattle.event_loop.specs.Asking.{steps_in}
use Rattle.event_loop.proofs.TurnLemmas.{done_both, done_one}
use Rattle.event_loop.proofs.MomentLemmas.{turns_rise}
use Rattle.event_loop.proofs.PictureLemmas.{AreAt, Timed, Fits, FitsOn, fits_first, fits_both, once_on, taken_fits}
use Rattle.event_loop.proofs.PictureLemmas.{passed_fits, all_fit, done_parts, in_order}

-- ---- what is due

timed_pictures : (now : ℕ) (asked : List (VideoSource × Bool)) → Timed now (map (picture_at now) asked) now
timed_pictures now [] = refl
timed_pictures now ((source, true) ∷ asked) = ((refl, tt), timed_pictures now asked)
timed_pictures now ((source, false) ∷ asked) = (tt, timed_pictures now asked)

or_later : (a b : Bool) → b ≡ true → (a || b) ≡ true
or_later true b h = refl
or_later false b h = h

-- these sources are asked while they are due, each once
asked_fits : (s : VideoSource) (now : ℕ) (asked : List (VideoSource × Bool)) (r : RequestsOf)
    → StandsOnce s (map (λ (a : VideoSource × Bool). a.0) asked)
    → (is_among (map (λ (a : VideoSource × Bool). a.0) asked) s ≡ true → is_among (due_sources now r) s ≡ true)
    → IsAskedInTime s r false (flat_map steps_in (map (picture_at now) asked))
asked_fits s now [] r once due = tt
asked_fits s now ((source, false) ∷ asked) r once due =
    asked_fits s now asked r once.1 (λ later. due (or_later (same_source s source) _ later))
asked_fits s now ((source, true) ∷ asked) r once due = (
  (λ same. inr (due (ap (λ (b : Bool). b || rest) same))),
  asked_fits s now asked (after_step (ask source now) r) once.1 (by (same_source s source) refl),
)
  where
    rest : Bool
    rest = is_among (map (λ (a : VideoSource × Bool). a.0) asked) s

    by : (b : Bool) → same_source s source ≡ b
        → is_among (map (λ (a : VideoSource × Bool). a.0) asked) s ≡ true
        → is_among (due_sources now (after_step (ask source now) r)) s ≡ true
    by true e later = absurd (let wrong : false ≡ true = sym (once.0 e) ∙ later in cc)
    by false e later =
        due_still s source now r e (due (ap (λ (b : Bool). b || rest) e ∙ later))

pictures_fit : {P S : Type 0} (s : VideoSource) (version : ℕ) (desk : Desk) (now : ℕ) (turns : List Turn)
    (old new : History P S)
    → StandsOnce s old.kept.pictures.waiting → HaveDone turns old new → AsksDue version desk now turns
    → Fits s now turns now old
pictures_fit {P} {S} s version desk now turns old new once done is =
    let saw : Turn = saw_desk is.later version desk now in
    let asked = (is.asked).asked in
    let sources = map (λ (a : VideoSource × Bool). a.0) asked in
    let pictures = map (picture_at now) asked in
    let chose : Turn = chose_sources now sources in
    let whole : turns ≡ saw ∷ chose ∷ pictures = is.are ∙ ap (λ (l : List Turn). saw ∷ l) (is.asked).are in
    let did = subst (λ (l : List Turn). HaveDone l old new) whole done in
    let mid = did.0 in
    let chosen = did.2 in
    let once' = once_on s (saw ∷ []) old mid (mid, did.1, refl) once in
    let asks =
    asked_fits s now asked mid.kept.pictures
    (subst (StandsOnce s) (sym chosen.1.right) (due_once s now mid.kept.pictures once'))
    (λ among. subst (λ (l : List VideoSource). is_among l s ≡ true) chosen.1.right among) in
    let last : Fits s now pictures now chosen.0 = (
      timed_pictures now asked,
      subst (λ (h : History P S). IsAskedInTime s h.kept.pictures false (flat_map steps_in pictures))
          (sym chosen.1.same) asks,
    ) in
    subst (λ (l : List Turn). Fits s now l now old) (sym whole)
    (fits_first s saw (chose ∷ pictures) now now old mid did.1 (at is.later) (fair is.later)
    (fits_first s chose pictures now now mid chosen.0 chosen.1 tt tt last))
  where
    at : (later : Bool) → AreAt now (steps_in (saw_desk later version desk now))
    at true = (refl, tt)
    at false = tt

    fair : (later : Bool) → IsAskedInTime s old.kept.pictures false (steps_in (saw_desk later version desk now))
    fair true = tt
    fair false = tt

beats_fit : {P S : Type 0} (s : VideoSource) (due : Bool) (desk : Desk) (now : ℕ) (old : History P S)
    → Fits s now (gave_ticks due now ∷ waits due desk now) now old
beats_fit s true desk now old = ((tt, (tt, refl)), tt)
beats_fit s false desk now old = ((tt, refl), tt)

due_fits : {P S : Type 0} (s : VideoSource) (version : ℕ) (desk : Desk) (now : ℕ) (turns : List Turn)
    (old new : History P S)
    → StandsOnce s old.kept.pictures.waiting → HaveDone turns old new → IsDue version desk now turns
    → Fits s now turns now old
due_fits s version desk now turns old new once done is =
    let beats = gave_ticks is.due now ∷ waits is.due desk now in
    let report : List Turn = made_report is.report desk now ∷ [] in
    let parts =
    done_parts beats (is.pictures ++ report) old new (subst (λ (l : List Turn). HaveDone l old new) is.are done) in
    let others = done_parts is.pictures report parts.0 new parts.2 in
    subst (λ (l : List Turn). Fits s now l now old) (sym is.are)
    (fits_both s beats (is.pictures ++ report) now now now old parts.0 parts.1 (beats_fit s is.due desk now old)
    (fits_both s is.pictures report now now now parts.0 others.0 others.1
    (pictures_fit s version desk now is.pictures parts.0 others.0 (once_on s beats old parts.0 parts.1 once) others.1
    is.asked)
    ((tt, refl), tt)))

-- ---- rounds

taking_fits : {P S : Type 0} (s : VideoSource) (version : ℕ) (desk : Desk) (now : ℕ) (turns : List Turn)
    (old new : History P S)
    → StandsOnce s old.kept.pictures.waiting → HaveDone turns old new → IsTaking version desk turns
    → FitsOn s now turns old
taking_fits s version desk now turns old new once done is =
    let enter : Turn = entered_desk desk in
    let look : List Turn = looked is.moment ∷ is.rest in
    let did = subst (λ (l : List Turn). HaveDone l old new) is.are done in
    let parts = done_parts is.reads look did.0 new did.2 in
    let first =
    all_fit s (IsTaken desk) (λ turns now old new. taken_fits s desk turns now old new) is.reads now did.0 parts.0
    parts.1 is.read in
    let next = parts.2 in
    let once' = once_on s (enter ∷ (is.reads ++ looked is.moment ∷ [])) old next.0 (
      did.0,
      did.1,
      done_both is.reads (looked is.moment ∷ []) did.0 parts.0 next.0 parts.1
          (done_one (looked is.moment) parts.0 next.0 next.1),
    )
    once in (
      is.moment,
      subst (λ (l : List Turn). Fits s now l is.moment old) (sym is.are)
          (fits_first s enter (is.reads ++ look) now is.moment old did.0 did.1 tt tt
          (fits_both s is.reads look now first.0 is.moment did.0 parts.0 parts.1 first.1
          (fits_first s (looked is.moment) is.rest first.0 is.moment parts.0 next.0 next.1 tt tt
          (due_fits s version desk is.moment is.rest next.0 new once' next.2 is.due)))),
    )

passing_fits : {P S : Type 0} (s : VideoSource) (now : ℕ) (turns : List Turn) (old new : History P S)
    → HaveDone turns old new → IsPassing turns → FitsOn s now turns old
passing_fits s now turns old new done is =
    let beats : List Turn = looked is.moment ∷ gave_ticks is.due is.moment ∷ [] in
    let parts = done_parts is.reads beats old new (subst (λ (l : List Turn). HaveDone l old new) is.are done) in
    let first =
    all_fit s IsPassed (λ turns now old new. passed_fits s turns now old new) is.reads now old parts.0 parts.1
    is.read in (
      is.moment,
      subst (λ (l : List Turn). Fits s now l is.moment old) (sym is.are)
          (fits_both s is.reads beats now first.0 is.moment old parts.0 parts.1 first.1 ((tt, (tt, refl)), tt)),
    )

entry_fits : {P S : Type 0} (s : VideoSource) (was is : Option ReaderOf) (now : ℕ) (turns : List Turn)
    (old new : History P S)
    → StandsOnce s old.kept.pictures.waiting → HaveDone turns old new → IsTakenIn was is turns → FitsOn s now turns old
entry_fits s None is now turns old new once done taken = absurd taken
entry_fits s (Some was) None now turns old new once done taken = absurd taken
entry_fits s (Some was) (Some is) now turns old new once done (inl taken) =
    taking_fits s (length is.lists) (after_lists is.start is.lists) now turns old new once done taken.1
entry_fits s (Some was) (Some is) now turns old new once done (inr passed) =
    passing_fits s now turns old new done passed.1

signals_fit : {P S : Type 0} (s : VideoSource) (raised : Bool) (now : ℕ) (old : History P S)
    → Fits s now (signals raised) now old
signals_fit s true now old = ((tt, refl), tt)
signals_fit s false now old = (refl, tt)

round_fits : {P S : Type 0} (s : VideoSource) (notice : NoticeOf) (was is : Option ReaderOf) (now : ℕ)
    (turns : List Turn) (old new : History P S)
    → StandsOnce s old.kept.pictures.waiting → HaveDone turns old new → IsRound notice was is turns
    → FitsOn s now turns old
round_fits s notice was is now turns old new once done round =
    let owe : Turn = owed notice in
    let wake = round.wake in
    let look : Turn = looked wake in
    let judge : Turn = judged_wake wake round.raised in
    let last = signals round.raised in
    let did = subst (λ (l : List Turn). HaveDone l old new) round.are done in
    let parts = done_parts round.entry (look ∷ judge ∷ last) did.0 new did.2 in
    let once' = once_on s (owe ∷ []) old did.0 (done_one owe old did.0 did.1) once in
    let first = entry_fits s was is now round.entry did.0 parts.0 once' parts.1 round.entered in
    let next = parts.2 in
    let after = next.2 in (
      wake,
      subst (λ (l : List Turn). Fits s now l wake old) (sym round.are)
          (fits_first s owe (round.entry ++ look ∷ judge ∷ last) now wake old did.0 did.1 tt tt
          (fits_both s round.entry (look ∷ judge ∷ last) now first.0 wake did.0 parts.0 parts.1 first.1
          (fits_first s look (judge ∷ last) first.0 wake parts.0 next.0 next.1 tt tt
          (fits_first s judge last wake wake next.0 after.0 after.1 tt tt (signals_fit s round.raised wake after.0))))),
    )

rounds_fit : {P S : Type 0} (s : VideoSource) (rounds : List (List Turn)) (was is : Option ReaderOf) (now : ℕ)
    (old new : History P S)
    → StandsOnce s old.kept.pictures.waiting → HaveDone (flat_map (λ (l : List Turn). l) rounds) old new
    → FoldsTo IsRoundAfterSleep was rounds is → FitsOn s now (flat_map (λ (l : List Turn). l) rounds) old
rounds_fit s [] was is now old new once done all = (now, (refl, tt))
rounds_fit s (one ∷ rounds) was is now old new once done all =
    let rest = flat_map (λ (l : List Turn). l) rounds in
    let parts = done_parts one rest old new done in
    let round = all.1 in
    let sleep : Turn = looked round.slept in
    let did = subst (λ (l : List Turn). HaveDone l old parts.0) round.are parts.1 in
    let slept = once_on s (sleep ∷ []) old did.0 (done_one sleep old did.0 did.1) once in
    let first =
    round_fits s round.notice was all.0 round.slept round.rest did.0 parts.0 slept did.2 round.round in
    let others =
    rounds_fit s rounds all.0 is first.0 parts.0 new (once_on s one old parts.0 parts.1 once) parts.2 all.2 in (
      others.0,
      fits_both s one rest now first.0 others.0 old parts.0 parts.1
          (subst (λ (l : List Turn). Fits s now l first.0 old) (sym round.are)
          (fits_first s sleep round.rest now first.0 old did.0 did.1 tt tt first.1)) others.1,
    )

pub rounds_apart : {P S : Type 0} (s : VideoSource) (turns : List Turn) (was is : Option ReaderOf)
    (old new : History P S)
    → AreRounds was is turns → HaveDone turns old new → old.kept.pictures ≡ no_requests
    → AreApart s None (flat_map steps_in turns)
rounds_apart s turns was is old new rounds done fresh =
    let all = flat_map (λ (l : List Turn). l) rounds.0 in
    let once = subst (λ (r : RequestsOf). StandsOnce s r.waiting) (sym fresh) tt in
    let fits =
    rounds_fit s rounds.0 was is 0 old new once (subst (λ (l : List Turn). HaveDone l old new) rounds.1 done)
    rounds.2 in
    let own = subst (λ (l : List Turn). Fits s 0 l fits.0 old) (sym rounds.1) fits.1 in
    apart s 0 (flat_map steps_in turns) old.kept.pictures None false
    (in_order turns 0 fits.0 (turns_rise turns old new done) own.0) own.1 tt (λ wrong. absurd (cc (wrong)))
