use Rattle.std.proofs.Common.{◌≡◌, [], ◌∙◌, refl}
use Rattle.std.proofs.lemmas.Result.{IfOk-weaker}
use Rattle.mixer.specs.Mixes.{sent_by, lanes_own}
use Rattle.mixer.specs.Mixers.{Ticks}
use Rattle.worked_media.specs.Rooms.{three_with, two_ticks_later}
use Rattle.worked_media.proofs.MixesSent.{sends}
use Rattle.worked_media.proofs.mixed_ticks.nobody_is_heard_before_60_ms.Goals as goal

heard : lanes_own 0 1 (sent_by (two_ticks_later (three_with [])) (three_with []) 40000000) ≡ []
heard = refl

pub returns : goal.returns
returns c =
    IfOk-weaker c.tick.result
    (λ sent.
    Ticks c.args.place.now.lane c.args.place.now.lanes c.args.mixer.now c.tick.new.self c.args.rows.now 40000000
    sent.items)
    (λ sent. sent.items ≡ [])
    (λ sent ticks.
    sends c.args.place.now.lane c.args.place.now.lanes c.args.mixer.now c.tick.new.self c.args.rows.now (three_with [])
    40000000 sent.items two_ticks_later c.requires.lane c.requires.lanes c.requires.rows c.requires.given ticks
    ∙ heard)
    c.tick.ensures.ticks
