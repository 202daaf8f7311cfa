use Rattle.std.proofs.Common.{◌≡◌, List, All, sym, subst}
use Rattle.std.proofs.lemmas.Result.{IfOk-weaker}
use Rattle.topology.specs.declared.hearing.MixSource.{MixSource}
use Rattle.topology.specs.Looking.{room_of_member}
use Rattle.worked_desk.proofs.choosing.hears_its_own_room.Goals as goal

pub returns : goal.returns
returns c = IfOk-weaker c.mix_plan.result _ _ (λ v is.
    subst
    (λ (sources : List MixSource).
    All (λ s. room_of_member c.args.rows.now s.member ≡ room_of_member c.args.rows.now c.args.member) sources)
    (sym is) (c.mixes_stay_in_the_room.ensures c.args.rows.now c.args.member c.mix_plan.ensures.good))
    c.mix_plan.ensures.sources
