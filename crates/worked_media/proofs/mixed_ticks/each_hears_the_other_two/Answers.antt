use Rattle.std.proofs.Common.{◌≡◌, pos, [], ◌∷◌, List, ◌∙◌, refl}
use Rattle.std.proofs.lemmas.Result.{IfOk-weaker}
use Rattle.desk_rows.specs.Desk.{Desk}
use Rattle.mixer.specs.Mixes.{MixSent, sent_by, lanes_own}
use Rattle.mixer.specs.Mixers.{Ticks}
use Rattle.worked_media.specs.Rooms.{first, second, third, mute, gain, three_with, three_ticks_later, mix_to}
use Rattle.worked_media.proofs.MixesSent.{sends}
use Rattle.worked_media.proofs.mixed_ticks.each_hears_the_other_two.Goals as goal

abbrev heard_in : Desk → List MixSent
heard_in d = lanes_own 0 1 (sent_by (three_ticks_later d) d 60000000)

heard_all : heard_in (three_with [])
    ≡ mix_to first (22 ∷ 23 ∷ []) (pos 6000) ∷ mix_to second (21 ∷ 23 ∷ []) (pos 5000)
    ∷ mix_to third (21 ∷ 22 ∷ []) (pos 3000) ∷ []
heard_all = refl

pub returns-clause-all : goal.returns-clause-all
returns-clause-all c is =
    IfOk-weaker c.tick.result
    (λ sent.
    Ticks c.args.place.now.lane c.args.place.now.lanes c.args.mixer.now c.tick.new.self c.args.rows.now 60000000
    sent.items)
    (λ sent.
    sent.items
    ≡ mix_to first (22 ∷ 23 ∷ []) (pos 6000) ∷ mix_to second (21 ∷ 23 ∷ []) (pos 5000)
    ∷ mix_to third (21 ∷ 22 ∷ []) (pos 3000) ∷ [])
    (λ sent ticks.
    sends c.args.place.now.lane c.args.place.now.lanes c.args.mixer.now c.tick.new.self c.args.rows.now (three_with [])
    60000000 sent.items three_ticks_later c.requires.lane c.requires.lanes is c.requires.given ticks
    ∙ heard_all)
    c.tick.ensures.ticks

heard_muted : heard_in (three_with (mute 22 ∷ []))
    ≡ mix_to first (23 ∷ []) (pos 4000) ∷ mix_to second (21 ∷ 23 ∷ []) (pos 5000) ∷ mix_to third (21 ∷ []) (pos 1000)
    ∷ []
heard_muted = refl

pub returns-clause-muted : goal.returns-clause-muted
returns-clause-muted c is =
    IfOk-weaker c.tick.result
    (λ sent.
    Ticks c.args.place.now.lane c.args.place.now.lanes c.args.mixer.now c.tick.new.self c.args.rows.now 60000000
    sent.items)
    (λ sent.
    sent.items
    ≡ mix_to first (23 ∷ []) (pos 4000) ∷ mix_to second (21 ∷ 23 ∷ []) (pos 5000) ∷ mix_to third (21 ∷ []) (pos 1000)
    ∷ [])
    (λ sent ticks.
    sends c.args.place.now.lane c.args.place.now.lanes c.args.mixer.now c.tick.new.self c.args.rows.now
    (three_with (mute 22 ∷ [])) 60000000 sent.items three_ticks_later c.requires.lane c.requires.lanes is
    c.requires.given ticks
    ∙ heard_muted)
    c.tick.ensures.ticks

heard_half : heard_in (three_with (gain 1 22 128 ∷ []))
    ≡ mix_to first (22 ∷ 23 ∷ []) (pos 5000) ∷ mix_to second (21 ∷ 23 ∷ []) (pos 5000)
    ∷ mix_to third (21 ∷ 22 ∷ []) (pos 3000) ∷ []
heard_half = refl

pub returns-clause-half : goal.returns-clause-half
returns-clause-half c is =
    IfOk-weaker c.tick.result
    (λ sent.
    Ticks c.args.place.now.lane c.args.place.now.lanes c.args.mixer.now c.tick.new.self c.args.rows.now 60000000
    sent.items)
    (λ sent.
    sent.items
    ≡ mix_to first (22 ∷ 23 ∷ []) (pos 5000) ∷ mix_to second (21 ∷ 23 ∷ []) (pos 5000)
    ∷ mix_to third (21 ∷ 22 ∷ []) (pos 3000) ∷ [])
    (λ sent ticks.
    sends c.args.place.now.lane c.args.place.now.lanes c.args.mixer.now c.tick.new.self c.args.rows.now
    (three_with (gain 1 22 128 ∷ [])) 60000000 sent.items three_ticks_later c.requires.lane c.requires.lanes is
    c.requires.given ticks
    ∙ heard_half)
    c.tick.ensures.ticks
