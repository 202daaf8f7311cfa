use Rattle.std.proofs.Common.{◌∙◌, ◌<◌, length, sym, subst, ap}
use Rattle.std.specs.List.{All, filter_map}
use Rattle.std.proofs.lemmas.Result.{IfOk-weaker}
use Rattle.desk_rows.specs.Order.{in_order}
use Rattle.topology.specs.declared.hearing.AudioSource.{AudioSource}
use Rattle.topology.specs.declared.seating.Seated.{Seated}
use Rattle.topology.specs.inner.Seating.{by_places}
use Rattle.topology.specs.inner.Audible.{audible_seat}
use Rattle.topology.proofs.Heard.{all_heard, heard_within, mutes_order}
use Rattle.topology.proofs.hearing.audio_sources.Goals as goal

pub seats-requires : goal.seats-requires
seats-requires g c =
    ap in_order c.others_of-mutes.ensures.rows ∙ mutes_order c.args.rows.now c.others_of-mutes.ensures.good

pub returns-clause-sources : goal.returns-clause-sources
returns-clause-sources g c =
    let d = c.args.rows.now in
    let n = length d.members in
    let made =
    c.in_ok-seats.ensures
    ∙ (λ i. filter_map (audible_seat d (c.others_of-mutes.ensures.rows i)) (c.others_of.ensures.rows i)) in
    let within = subst (All (λ (t : Seated AudioSource). t.place < n)) (sym made) (heard_within d) in
    IfOk-weaker c.by_places.result _ _
    (λ v is. is n within ∙ ap (by_places n) made ∙ all_heard d c.others_of-mutes.ensures.good) c.by_places.ensures
