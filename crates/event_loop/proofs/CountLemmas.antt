-- What a front counted is what its turns took in.
use Rattle.std.proofs.Common.{◌≡◌, List, [], ◌∷◌, ◌++◌, refl, ap, sym, subst}
use Rattle.std.specs.List.{flat_map}
use Rattle.ingress.specs.declared.outcome.Outcome.{Outcome}
use Rattle.bridge_stats.specs.declared.taken.TakenIn.{TakenIn}
use Rattle.bridge_stats.specs.Stats.{StatsOf}
use Rattle.bridge_stats.specs.Runs.{AreAllNoted}
use Rattle.bridge_stats.proofs.WholeLemmas.{all_taken}
use Rattle.media_front.specs.Fronts.{Arrival}
use Rattle.event_loop.specs.Turns.{Turn, History, Does, HaveDone, owed, passed, took, lost, looked, gave_ticks}
use Rattle.event_loop.specs.Turns.{let_wait, let_some_wait, entered_desk, saw_desk, wanted_picture, chose_sources}
use Rattle.event_loop.specs.Turns.{asked_picture, made_report, judged_wake, signalled}
use Rattle.event_loop.specs.Totals.{taken_in, AreNotesOf, AreCounted}

-- what turns noted, and that it was noted
abbrev Noted : List (Arrival × Outcome) → StatsOf → StatsOf → Type 0
Noted all old new = (notes : List TakenIn) × AreNotesOf all notes × AreAllNoted notes old new

notes_both : (xs ys : List (Arrival × Outcome)) (ns ms : List TakenIn) → AreNotesOf xs ns → AreNotesOf ys ms
    → AreNotesOf (xs ++ ys) (ns ++ ms)
notes_both [] ys [] ms these those = those
notes_both [] ys (n ∷ ns) ms these those = absurd these
notes_both (x ∷ xs) ys [] ms these those = absurd these
notes_both (x ∷ xs) ys (n ∷ ns) ms these those = (these.0, notes_both xs ys ns ms these.1 those)

noted_both : (ns ms : List TakenIn) (a b c : StatsOf) → AreAllNoted ns a b → AreAllNoted ms b c
    → AreAllNoted (ns ++ ms) a c
noted_both [] ms a b c same those = subst (λ (s : StatsOf). AreAllNoted ms s c) same those
noted_both (n ∷ ns) ms a b c these those = (these.0, these.1, noted_both ns ms these.0 b c these.2 those)

-- a turn that takes nothing in
nothing_noted : (old new : StatsOf) → new ≡ old → Noted [] old new
nothing_noted old new same = ([], tt, same)

noted_by_one : {P S : Type 0} (t : Turn) (old new : History P S) → Does old t new
    → Noted (taken_in t) old.stats new.stats
noted_by_one {P} {S} (owed notice) old new d =
    nothing_noted old.stats new.stats (ap (λ (h : History P S). h.stats) d)
noted_by_one {P} {S} (passed came) old new d =
    nothing_noted old.stats new.stats (ap (λ (h : History P S). h.stats) d)
noted_by_one (took late arrival outcome ended) old new d =
    (d.counted.taken ∷ [], (d.counted.is, tt), (new.stats, d.counted.noted, refl))
noted_by_one (lost late arrival) old new d = nothing_noted old.stats new.stats d.stats
noted_by_one {P} {S} (looked moment) old new d =
    nothing_noted old.stats new.stats (ap (λ (h : History P S). h.stats) d.same)
noted_by_one {P} {S} (gave_ticks due moment) old new d =
    nothing_noted old.stats new.stats (ap (λ (h : History P S). h.stats) d.same)
noted_by_one {P} {S} (let_wait desk moment) old new d =
    nothing_noted old.stats new.stats (ap (λ (h : History P S). h.stats) d.same)
noted_by_one {P} {S} (let_some_wait desk moment) old new d =
    nothing_noted old.stats new.stats (ap (λ (h : History P S). h.stats) d.same)
noted_by_one {P} {S} (entered_desk desk) old new d =
    nothing_noted old.stats new.stats (ap (λ (h : History P S). h.stats) d)
noted_by_one {P} {S} (saw_desk later version desk moment) old new d =
    nothing_noted old.stats new.stats (ap (λ (h : History P S). h.stats) d.same)
noted_by_one {P} {S} (wanted_picture source moment) old new d =
    nothing_noted old.stats new.stats (ap (λ (h : History P S). h.stats) d)
noted_by_one {P} {S} (chose_sources moment sources) old new d =
    nothing_noted old.stats new.stats (ap (λ (h : History P S). h.stats) d.same)
noted_by_one {P} {S} (asked_picture o moment sent) old new d =
    nothing_noted old.stats new.stats (ap (λ (h : History P S). h.stats) d.same)
noted_by_one {P} {S} (made_report due desk moment) old new d =
    nothing_noted old.stats new.stats (ap (λ (h : History P S). h.stats) d.same)
noted_by_one {P} {S} (judged_wake moment raised) old new d =
    nothing_noted old.stats new.stats (ap (λ (h : History P S). h.stats) d.same)
noted_by_one {P} {S} signalled old new d = nothing_noted old.stats new.stats (ap (λ (h : History P S). h.stats) d)

noted_by_all : {P S : Type 0} (turns : List Turn) (old new : History P S) → HaveDone turns old new
    → Noted (flat_map taken_in turns) old.stats new.stats
noted_by_all {P} {S} [] old new g = nothing_noted old.stats new.stats (ap (λ (h : History P S). h.stats) (sym g))
noted_by_all (t ∷ ts) old new g =
    let mid = g.0 in
    let one = noted_by_one t old mid g.1 in
    let rest = noted_by_all ts mid new g.2 in (
      one.0 ++ rest.0,
      notes_both (taken_in t) (flat_map taken_in ts) one.0 rest.0 one.1 rest.1,
      noted_both one.0 rest.0 old.stats mid.stats new.stats one.2 rest.2,
    )

pub counted_by_all : {P S : Type 0} (turns : List Turn) (old new : History P S) → HaveDone turns old new
    → AreCounted turns old.stats new.stats
counted_by_all turns old new g =
    let all = noted_by_all turns old new g in
    record {
      notes = all.0;
      each = all.1;
      noted = all.2;
      taken = all_taken all.0 old.stats new.stats all.2;
    }
