-- What a watch tells, one answer after another.
use Rattle.std.proofs.Common.{◌≡◌, ◌≤◌, ℕ, ◌+◌, ◌-◌, Bool, true, false, List, [], ◌∷◌, ◌++◌, length, take, drop}
use Rattle.std.proofs.Common.{Option, Some, None}
use Rattle.std.proofs.Common.{refl, sym, ap, subst, ◌∙◌, append_assoc, length-append, take-append-drop, arith}
use Rattle.std.proofs.lemmas.List.{append-nil, drop-append-le, drop_all, length-take-le, take-take, take_at}
use Rattle.std.specs.Prelude.{max}
use Rattle.std.specs.Bool.{MatchBool}
use mathlib.Core.List.{IsPrefix}
use Rattle.logbook.specs.Pages.{Book}
use Rattle.desk_rows.specs.Desk.{Desk}
use Rattle.desk_edit.specs.Asked.{CallOf}
use Rattle.call_history.specs.Lists.{last_few}
use Rattle.call_history.specs.Stamp.{StampOf, StampedOf}
use Rattle.desk_text.specs.StampedText.{told_line, told_text}
use Rattle.operator_lines.specs.DeskAsk.{DeskAsk, calls, watches, news, lists, renames, leases, faults}
use Rattle.operator_lines.specs.declared.trouble.Wrong.TheVariants.{Faulty}
use Rattle.operator_desk.specs.declared.answer.Answer.{Answer}
use Rattle.operator_desk.specs.declared.answer.Answer.TheVariants.{Accepted, Refused}
use Rattle.operator_desk.specs.Answers.{IsAnswered, HasCaughtUp}
use Rattle.operator_desk.specs.Entry.{EntryOf}
use Rattle.operator_desk.specs.LegalLogs.{IsLegal}
use Rattle.operator_desk.specs.PastCalls.{stamped_from, stamped_of}
use Rattle.operator_desk.specs.Seats.{SeatOf}
use Rattle.operator_desk.proofs.StampLemmas.{stamped-append, length-stamped}
use Rattle.operator_threads.specs.Watches.{SittingOf, SeatAnswers, SeatWatches, SeatNews, AreSeatAnswers, TellsNews}
use Rattle.operator_threads.specs.Lease.{leases_after}
use Rattle.operator_threads.specs.Told.{shown_name}
use Rattle.operator_threads.specs.Watches.{AnswersCall, IsClosed, after_learning}
use Rattle.operator_threads.specs.Watches.{news_of, news_among, TellsEach, WasTold}

-- a seat that has seen a legal log has caught up with it
pub stays_caught : (start : Desk) (s : SeatOf) → IsLegal start s.seen → HasCaughtUp start s s
stays_caught start s legal =
    record { op = refl; legal = legal; begins = ([], append-nil s.seen); own = refl; count = refl }

-- where all known calls were told, and all that the seat has seen, there are no news
pub no_news : (start : Desk) (told : ℕ) (s : SittingOf) → IsLegal start s.seat.seen → s.told ≡ Some told
    → length s.known.lists ≤ told → length s.seat.seen ≤ told → TellsNews start told s s []
no_news start told s legal is known seen =
    let most : max told (length s.seat.seen) ≡ told = omega (arith, seen) in
    let many : length (stamped_of s.seat.seen) ≡ length s.seat.seen = length-stamped 1 s.seat.seen in
    record {
      caught = stays_caught start s.seat legal;
      known = refl;
      all = omega (arith, most, known);
      told = is ∙ ap Some (sym most);
      named = refl;
      name = refl;
      trouble = refl;
      learnt = refl;
      text = ap (told_text s.is_named) (sym (drop_all told (stamped_of s.seat.seen) (omega (arith, many, seen))));
    }

-- the last calls of a log, by how many stand before them
pub last_calls : (most : ℕ) (log : List EntryOf)
    → drop (length log - most) (stamped_of log) ≡ last_few most (stamped_of log)
last_calls most log = ap (λ (n : ℕ). drop (n - most) (stamped_of log)) (sym (length-stamped 1 log))

prefix_same : (xs : List EntryOf) → IsPrefix xs xs
prefix_same xs = ([], append-nil xs)

prefix_both : (xs ys zs : List EntryOf) → IsPrefix xs ys → IsPrefix ys zs → IsPrefix xs zs
prefix_both xs ys zs g h =
    (g.0 ++ h.0, sym (append_assoc xs g.0 h.0) ∙ (ap (λ (l : List EntryOf). l ++ h.0) g.1 ∙ h.1))

prefix_few : (xs ys : List EntryOf) → IsPrefix xs ys → length xs ≤ length ys
prefix_few xs ys g =
    let whole : length (xs ++ g.0) ≡ length ys = ap length g.1 in
    let parts = length-append xs g.0 in
    omega (arith, whole, parts)

-- what a seat has seen goes on with each call
replied : (start : Desk) (publisher : Book) (old new : SeatOf) (call : CallOf) (stamp : StampOf) (answer : Answer)
    → IsAnswered start publisher old new call stamp answer → IsPrefix old.seen new.seen
replied start publisher old new call stamp (Accepted number notice) a = (
  a.ends.0 ++ record { op = old.op; call = call; stamp = stamp } ∷ [],
  sym (append_assoc old.seen a.ends.0 (record { op = old.op; call = call; stamp = stamp } ∷ [])) ∙ sym a.ends.1,
)
replied start publisher old new call stamp (Refused version why) a = a.begins

-- a call leaves the watch as it is, whether the desk takes it or not
record Stays (old new : SittingOf) : Type 0 where
  pub told : new.told ≡ old.told
  pub begins : IsPrefix old.seat.seen new.seat.seen

called : (start : Desk) (publisher : Book) (moment : ℕ) (old new : SittingOf) (line : List ℕ) (call : CallOf)
    (text : List ℕ) (takes : Bool)
    → MatchBool takes (AnswersCall start publisher moment old new line call text) (IsClosed old new line text)
    → Stays old new
called start publisher moment old new line call text true a =
    record { told = a.told; begins = replied start publisher old.seat new.seat call _ a.answer a.answered }
called start publisher moment old new line call text false a =
    record {
      told = ap (λ (s : SittingOf). s.told) a.noted;
      begins =
          subst (λ (s : SittingOf). IsPrefix old.seat.seen s.seat.seen) (sym a.noted) (prefix_same old.seat.seen);
    }

-- the calls of a log are the first ones of a log that goes on from it
first_made : (xs ys : List EntryOf) (last : ℕ) → IsPrefix xs ys → length xs ≤ last
    → take (length xs) (take last (stamped_of ys)) ≡ stamped_of xs
first_made xs ys last g few =
    take-take (length xs) last (stamped_of ys) few
    ∙ (ap (λ (l : List EntryOf). take (length xs) (stamped_of l)) (sym g.1)
    ∙ (ap (take (length xs)) (stamped-append 1 xs g.0)
    ∙ take_at (stamped_of xs) (stamped_from (1 + length xs) g.0) (length xs) (length-stamped 1 xs)))

-- calls are told, all in one form
tells_all : (is_named : Bool) (ss : List StampedOf) → TellsEach ss (told_text is_named ss)
tells_all is_named [] = refl
tells_all is_named (s ∷ ss) = (is_named, told_text is_named ss, refl, tells_all is_named ss)

-- calls are told, and then others
tells_both : (xs ys : List StampedOf) (s t : List ℕ) → TellsEach xs s → TellsEach ys t → TellsEach (xs ++ ys) (s ++ t)
tells_both [] ys s t these those = subst (λ (l : List ℕ). TellsEach ys (l ++ t)) (sym these) those
tells_both (x ∷ xs) ys s t these those = (
  these.0,
  these.1 ++ t,
  ap (λ (l : List ℕ). l ++ t) these.2 ∙ append_assoc (told_line these.0 x) these.1 t,
  tells_both xs ys these.1 t these.3 those,
)

-- what was told, and then what comes behind it
joined : (told most : ℕ) (ms : List StampedOf) → told ≤ most → most ≤ length ms
    → drop told (take most ms) ++ drop most ms ≡ drop told ms
joined told most ms less few =
    let many = length-take-le most ms few in
    sym (drop-append-le told (take most ms) (drop most ms) (omega (arith, less, many)))
    ∙ ap (drop told) (take-append-drop most ms)

-- what was told behind a place, and how far the log was seen then
record Goes (told : ℕ) (old new : SittingOf) (text : List ℕ) : Type 0 where
  pub was : WasTold told new text
  pub least : told ≤ was.last
  pub begins : IsPrefix old.seat.seen new.seat.seen

longest : (told seen : ℕ) → told ≤ seen → max told seen ≡ seen
longest told seen less = omega (arith, less)

some_is : (a b : ℕ) → Some a ≡ Some b → a ≡ b
some_is a b same = cc same

-- what is told of a log from here on, whatever is asked
abbrev GoesOn : Desk → Book → List (DeskAsk × List ℕ) → SittingOf → Type 0
GoesOn start publisher asked new =
    (told : ℕ) (old : SittingOf) → AreSeatAnswers start publisher asked old new → old.told ≡ Some told
    → told ≤ length old.seat.seen → Goes told old new (news_among asked)

step : (start : Desk) (publisher : Book) (asked : List (DeskAsk × List ℕ)) (told moment : ℕ) (old mid new : SittingOf)
    (ask : DeskAsk) (text : List ℕ)
    → SeatAnswers start publisher moment old mid ask text → AreSeatAnswers start publisher asked mid new
    → old.told ≡ Some told → told ≤ length old.seat.seen → GoesOn start publisher asked new
    → Goes told old new (news_of ask text ++ news_among asked)
step start publisher asked told moment old mid new (calls line call) text a done is few goes =
    let stays = called start publisher moment (after_learning mid.learnt old) mid line call text _ a.3 in
    let begins = stays.begins in
    let longer = prefix_few old.seat.seen mid.seat.seen begins in
    let more = goes told mid done (stays.told ∙ is) (omega (arith, few, longer)) in
    record {
      was = more.was;
      least = more.least;
      begins = prefix_both old.seat.seen mid.seat.seen new.seat.seen begins more.begins;
    }
step start publisher asked told moment old mid new (lists most) text a done is few goes =
    let begins = a.caught.begins in
    let longer = prefix_few old.seat.seen mid.seat.seen begins in
    let more = goes told mid done (a.told ∙ is) (omega (arith, few, longer)) in
    record {
      was = more.was;
      least = more.least;
      begins = prefix_both old.seat.seen mid.seat.seen new.seat.seen begins more.begins;
    }
step start publisher asked told moment old mid new (watches is_named) text a done is few goes =
    let same : mid ≡ record old { is_named = is_named } =
    (subst (λ (o : Option ℕ). SeatWatches start is_named old mid o text) is a).0 in
    let more = goes told (record old { is_named = is_named })
    (subst (λ (s : SittingOf). AreSeatAnswers start publisher asked s new) same done) is few in
    record { was = more.was; least = more.least; begins = more.begins }
step start publisher asked told moment old mid new (renames name) text a done is few goes =
    let more = goes told (record old { name = name })
    (subst (λ (s : SittingOf). AreSeatAnswers start publisher asked s new) a.0 done) is few in
    record { was = more.was; least = more.least; begins = more.begins }
step start publisher asked told moment old mid new (leases ask) text a done is few goes =
    let next = after_learning (leases_after ask a.at (shown_name old.name) a.before) old in
    let more = goes told next (subst (λ (s : SittingOf). AreSeatAnswers start publisher asked s new) a.after done) is
    few in
    record { was = more.was; least = more.least; begins = more.begins }
step start publisher asked told moment old mid new (faults line word fault) text a done is few goes =
    let more = goes told (record old { trouble = Some (record { line = line; wrong = Faulty word fault }) })
    (subst (λ (s : SittingOf). AreSeatAnswers start publisher asked s new) a.0 done) is few in
    record { was = more.was; least = more.least; begins = more.begins }
step start publisher asked told moment old mid new news text a done is few goes =
    let t : TellsNews start told old mid text = subst (λ (o : Option ℕ). SeatNews start old mid o text) is a in
    let begins = t.caught.begins in
    let longer = prefix_few old.seat.seen mid.seat.seen begins in
    let seen = length mid.seat.seen in
    let less : told ≤ seen = omega (arith, few, longer) in
    let more = goes seen mid done (t.told ∙ ap Some (longest told seen less)) (omega arith) in
    let last = more.was.last in
    let ms = take last (stamped_of new.seat.seen) in
    let many : length (stamped_of new.seat.seen) ≡ length new.seat.seen = length-stamped 1 new.seat.seen in
    let there = more.was.few in
    let all = length-take-le last (stamped_of new.seat.seen) (omega (arith, there, many)) in
    let least = more.least in
    let first = first_made mid.seat.seen new.seat.seen last more.begins least in
    let here : TellsEach (drop told (take seen ms)) text =
    subst (λ (l : List ℕ). TellsEach (drop told (take seen ms)) l) (sym t.text)
    (subst
    (λ (l : List StampedOf). TellsEach (drop told l) (told_text old.is_named (drop told (stamped_of mid.seat.seen))))
    (sym first)
    (tells_all old.is_named (drop told (stamped_of mid.seat.seen)))) in
    record {
      was = record {
        last = last;
        told = more.was.told;
        few = there;
        text =
            subst (λ (l : List StampedOf). TellsEach l (text ++ news_among asked))
            (joined told seen ms less (omega (arith, least, all)))
            (tells_both (drop told (take seen ms)) (drop seen ms) text (news_among asked) here more.was.text);
      };
      least = omega (arith, less, least);
      begins = prefix_both old.seat.seen mid.seat.seen new.seat.seen begins more.begins;
    }

goes : (start : Desk) (publisher : Book) (asked : List (DeskAsk × List ℕ)) (new : SittingOf)
    → GoesOn start publisher asked new
goes start publisher [] new told old done is few =
    subst (λ (s : SittingOf). Goes told old s []) done (
    let many : length (stamped_of old.seat.seen) ≡ length old.seat.seen = length-stamped 1 old.seat.seen in
    let front = length-take-le told (stamped_of old.seat.seen) (omega (arith, many, few)) in
    record {
      was = record {
        last = told;
        told = is;
        few = few;
        text =
            subst (λ (l : List StampedOf). TellsEach l [])
            (sym (drop_all told (take told (stamped_of old.seat.seen)) (omega (arith, front)))) refl;
      };
      least = omega arith;
      begins = prefix_same old.seat.seen;
    }
    )
goes start publisher (one ∷ asked) new told old done is few =
    step start publisher asked told done.1.0 old done.0 new one.0 one.1 done.1.1 done.2 is few
    (goes start publisher asked new)

-- from the beginning of a watch on
pub was_told : (start : Desk) (publisher : Book) (asked : List (DeskAsk × List ℕ)) (told : ℕ) (old new : SittingOf)
    → AreSeatAnswers start publisher asked old new → old.told ≡ Some told → told ≤ length old.seat.seen
    → WasTold told new (news_among asked)
was_told start publisher asked told old new done is few = (goes start publisher asked new told old done is few).was
