use Rattle.std.proofs.Common.{◌≡◌, pos, [], ◌∷◌, ◌∙◌, refl}
use Rattle.std.specs.List.{range_with_len}
use Rattle.std.proofs.lemmas.Result.{IfOk-weaker}
use Rattle.mixer.specs.Mixes.{sent_by, lanes_own}
use Rattle.mixer.specs.Mixers.{Ticks}
use Rattle.worked_media.specs.Rooms.{first, sixteen_sources, all_sixteen_said, mix_to}
use Rattle.worked_media.proofs.MixesSent.{sends}
use Rattle.worked_media.proofs.mixed_ticks.the_sixteenth_contributor_is_not_named.Goals as goal

heard : lanes_own 0 1 (sent_by (all_sixteen_said sixteen_sources) sixteen_sources 60000000)
    ≡ mix_to first (range_with_len 101 15) (pos 1600) ∷ []
heard = refl

pub returns : goal.returns
returns c =
    IfOk-weaker c.tick.result
    (λ sent.
    Ticks c.args.place.now.lane c.args.place.now.lanes c.args.mixer.now c.tick.new.self c.args.rows.now 60000000
    sent.items)
    (λ sent. sent.items ≡ mix_to first (range_with_len 101 15) (pos 1600) ∷ [])
    (λ sent ticks.
    sends c.args.place.now.lane c.args.place.now.lanes c.args.mixer.now c.tick.new.self c.args.rows.now sixteen_sources
    60000000 sent.items all_sixteen_said c.requires.lane c.requires.lanes c.requires.rows c.requires.given ticks
    ∙ heard)
    c.tick.ensures.ticks
