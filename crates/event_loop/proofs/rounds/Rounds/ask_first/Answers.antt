use Rattle.std.proofs.Common.{◌∷◌, [], List, refl, ap, sym, subst, ◌∙◌}
use Rattle.picture_requests.specs.declared.source.VideoSource.{VideoSource}
use Rattle.event_loop.specs.Kept.{asked_origin}
use Rattle.event_loop.specs.Turns.{Turn, wanted_picture, asked_picture}
use Rattle.event_loop.specs.Shapes.{AsksFirst}
use Rattle.event_loop.proofs.StepLemmas.{err_on_ok, on_ok_map}
use Rattle.event_loop.proofs.rounds.Rounds.ask_first.Goals as goal

pub returns-in-None : goal.returns-in-None
returns-in-None g c =
    ([], refl, subst (λ e. AsksFirst c.args.from.now c.args.moment e []) (sym c.in-None.is) refl)

pub returns-in_err-want_picture-in-Some : goal.returns-in_err-want_picture-in-Some
returns-in_err-want_picture-in-Some g c = (
  [],
  sym c.in_err-want_picture-in-Some.ensures.err,
  err_on_ok _ c.from_residual.result c.from_residual.ensures.0,
)

pub returns-in_ok-want_picture-in-Some : goal.returns-in_ok-want_picture-in-Some
returns-in_ok-want_picture-in-Some g c =
    let p = c.ask_picture.ensures in
    let moment = c.args.moment in
    let source : VideoSource = c.at-source.result in
    let want : Turn = wanted_picture source moment in (
      want ∷ p.0,
      (c.want_picture.new.self, c.in_ok-want_picture-in-Some.ensures.ok, p.1),
      on_ok_map c.ask_picture.result
          (λ k. subst (λ e. AsksFirst c.args.from.now moment e (want ∷ p.0)) (sym c.in-Some.is) (
            k.0,
            ap (λ (l : List Turn). want ∷ l) k.1
                ∙ ap
                (λ (s : VideoSource). wanted_picture s moment ∷ asked_picture (asked_origin s) moment k.0 ∷ [])
                c.at-source.ensures,
          ))
          p.2,
    )
