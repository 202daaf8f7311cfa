use Rattle.std.proofs.Common.{Bool, if◌then◌else◌, ap, ◌∙◌}
use Rattle.std.proofs.lemmas.Result.{IfOk-weaker}
use Rattle.std.specs.Option.{option_map}
use Rattle.ingress.specs.Sources.{story_at}
use Rattle.ingress.specs.Reported.{renewed, reported}
use Rattle.worked_bridge.proofs.ingress_laws.reports_leave_others_alone.Goals as goal

pub returns : goal.returns
returns c = IfOk-weaker c.reports.result _ _ (λ up tells s knows.
    let asker = c.args.ingress.now.asker in
    let d = c.args.rows.now in
    let moment = c.args.moment in (
      (reported asker d moment s).1,
      (tells s knows).1,
      c.reports_begin_intervals.ensures.order asker d moment s,
      λ o other.
          c.reports_begin_intervals.ensures.just asker d moment s o c.reports.ensures.good
          ∙ ap (λ (b : Bool). if b then option_map renewed (story_at o s.known) else story_at o s.known) other,
    )) c.reports.ensures.tells
