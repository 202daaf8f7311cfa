use Rattle.std.proofs.Common.{List, [], length, sym, subst}
use Rattle.std.specs.List.{AllByRecursion}
use Rattle.media_items.specs.Inputs.{Input}
use Rattle.bridge_core.specs.Sent.{Sent}
use Rattle.bridge_core.specs.Steps.{visit_after}
use Rattle.bridge_core.specs.Headline.{IsChosenOf}
use Rattle.bridge_core.proofs.WholeRunLaws.{good_desk}
use Rattle.plain_laws.proofs.RunAlong.{gone_along}
use Rattle.plain_laws.proofs.laws.frames_go_by_the_desk.Goals as goal

pub returns : goal.returns
returns c start before sent first ready last lane f now taken h all run takes =
    let went = gone_along start [] before sent first ready taken run in
    let here = takes start before went.1 in
    let chosen =
    c.packets_are_chosen.ensures ready.ingress.asker (length ready.lanes) lane start before f
    (good_desk start before h all) in
    (subst
    (λ (each : List (List Sent)).
    AllByRecursion (AllByRecursion (IsChosenOf (visit_after start before lane (Input.frame f)) f)) each)
    (sym here.0) chosen).0
