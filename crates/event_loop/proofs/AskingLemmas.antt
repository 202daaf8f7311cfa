-- A front's requests for pictures are those of its turns.
use Rattle.std.proofs.Common.{◌≡◌, true, false, List, [], ◌∷◌, ◌++◌, refl, ap, sym, ◌∙◌}
use Rattle.std.specs.List.{flat_map}
use Rattle.picture_requests.specs.Requests.{RequestsOf}
use Rattle.picture_requests.specs.Steps.{RequestStep, after_step, after_steps}
use Rattle.event_loop.specs.declared.kept.FrontKept.{FrontKept}
use Rattle.event_loop.specs.Turns.{Turn, History, Does, HaveDone, owed, passed, took, lost, looked, gave_ticks}
use Rattle.event_loop.specs.Turns.{let_wait, let_some_wait, entered_desk, saw_desk, wanted_picture, chose_sources}
use Rattle.event_loop.specs.Turns.{asked_picture, made_report, judged_wake, signalled}
use Rattle.event_loop.specs.Asking.{steps_in}

pub steps_both : (xs ys : List RequestStep) (r : RequestsOf)
    → after_steps (xs ++ ys) r ≡ after_steps ys (after_steps xs r)
steps_both [] ys r = refl
steps_both (x ∷ xs) ys r = steps_both xs ys (after_step x r)

pub requests_by_one : {P S : Type 0} (t : Turn) (old new : History P S) → Does old t new
    → new.kept.pictures ≡ after_steps (steps_in t) old.kept.pictures
requests_by_one {P} {S} (owed notice) old new d = ap (λ (h : History P S). h.kept.pictures) d
requests_by_one {P} {S} (passed came) old new d = ap (λ (h : History P S). h.kept.pictures) d
requests_by_one (took late arrival outcome ended) old new d = ap (λ (k : FrontKept). k.pictures) d.kept
requests_by_one (lost late arrival) old new d = ap (λ (k : FrontKept). k.pictures) d.kept
requests_by_one {P} {S} (looked moment) old new d = ap (λ (h : History P S). h.kept.pictures) d.same
requests_by_one {P} {S} (gave_ticks due moment) old new d = ap (λ (h : History P S). h.kept.pictures) d.same
requests_by_one {P} {S} (let_wait desk moment) old new d = ap (λ (h : History P S). h.kept.pictures) d.same
requests_by_one {P} {S} (let_some_wait desk moment) old new d = ap (λ (h : History P S). h.kept.pictures) d.same
requests_by_one {P} {S} (entered_desk desk) old new d = ap (λ (h : History P S). h.kept.pictures) d
requests_by_one {P} {S} (saw_desk true version desk moment) old new d =
    ap (λ (h : History P S). h.kept.pictures) d.same
requests_by_one {P} {S} (saw_desk false version desk moment) old new d =
    ap (λ (h : History P S). h.kept.pictures) d.same
requests_by_one {P} {S} (wanted_picture source moment) old new d = ap (λ (h : History P S). h.kept.pictures) d
requests_by_one {P} {S} (chose_sources moment sources) old new d = ap (λ (h : History P S). h.kept.pictures) d.same
requests_by_one (asked_picture o moment true) old new d = ap (λ (k : FrontKept). k.pictures) d.noted
requests_by_one (asked_picture o moment false) old new d = ap (λ (k : FrontKept). k.pictures) d.noted
requests_by_one {P} {S} (made_report due desk moment) old new d = ap (λ (h : History P S). h.kept.pictures) d.same
requests_by_one {P} {S} (judged_wake moment raised) old new d = ap (λ (h : History P S). h.kept.pictures) d.same
requests_by_one {P} {S} signalled old new d = ap (λ (h : History P S). h.kept.pictures) d

pub requests_by_all : {P S : Type 0} (turns : List Turn) (old new : History P S) → HaveDone turns old new
    → new.kept.pictures ≡ after_steps (flat_map steps_in turns) old.kept.pictures
requests_by_all {P} {S} [] old new g = ap (λ (h : History P S). h.kept.pictures) (sym g)
requests_by_all (t ∷ ts) old new g =
    requests_by_all ts g.0 new g.2
    ∙ (ap (λ (r : RequestsOf). after_steps (flat_map steps_in ts) r) (requests_by_one t old g.0 g.1)
    ∙ sym (steps_both (steps_in t) (flat_map steps_in ts) old.kept.pictures))
