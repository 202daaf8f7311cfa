use Rattle.std.proofs.Common.{[], ◌∷◌, ◌++◌, List, map, refl, ◌∙◌}
use Rattle.std.specs.Prelude.{Bool}
use Rattle.std.proofs.lemmas.List.{take_all}
use Rattle.picture_requests.specs.declared.source.VideoSource.{VideoSource}
use Rattle.event_loop.specs.Turns.{Turn, chose_sources}
use Rattle.event_loop.specs.Shapes.{picture_at}
use Rattle.event_loop.proofs.TurnLemmas.{done_both}
use Rattle.event_loop.proofs.StepLemmas.{err_on_ok, pictures_more}
use Rattle.event_loop.proofs.rounds.Rounds.ask_pictures.Goals as goal

pub loop-source-init : goal.loop-source-init
loop-source-init g c = ([], refl, refl)

pub loop-source-preserved : goal.loop-source-preserved
loop-source-preserved g c =
    let k = c.loop-source.invariant in
    let t = c.in_ok-ask_picture.ensures in
    pictures_more c.args.now c.deref-source-items.result.now c.loop-source.source-index _ k.0 t.2.0 t.0 _ _ _
    c.loop-source-test.true k.1 k.2 t.2.1 t.1

pub returns-in_err-ask_picture : goal.returns-in_err-ask_picture
returns-in_err-ask_picture g c =
    let k = c.loop-source.invariant in
    let t = c.ask_picture.ensures in
    let asked : List Turn = map (picture_at c.args.now) k.0 in (
      chose_sources c.args.now c.in_ok-due.due.items ∷ (asked ++ t.0),
      (
        c.args.self.now.state,
        record { right = c.in_ok-due.ensures; same = refl },
        done_both asked t.0 _ _ _ k.2 t.1,
      ),
      err_on_ok _ c.from_residual-in_err-ask_picture.result c.from_residual-in_err-ask_picture.ensures.0,
    )

pub returns : goal.returns
returns g c =
    let k = c.loop-source.invariant in
    let now = c.args.now in
    let all =
    k.1
    ∙ (take_all c.loop-source.source-index c.deref-source-items.result.now c.loop-source-test.false
    ∙ (c.deref-source-items.ensures.value ∙ c.in_ok-due.ensures)) in (
      chose_sources now (map (λ (a : VideoSource × Bool). a.0) k.0) ∷ map (picture_at now) k.0,
      (c.args.self.now.state, record { right = all; same = refl }, k.2),
      record { asked = k.0; are = refl },
    )
