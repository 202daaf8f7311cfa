use Rattle.std.proofs.Common.{◌≡◌, [], Some, None, ◌∙◌, refl}
use Rattle.mixer.specs.Mixes.{turns, counts_of}
use Rattle.worked_media.specs.Rooms.{three_with, three_ticks_later, four_ticks_later}
use Rattle.worked_media.proofs.mixed_ticks.a_mix_is_told_of_from_its_first_packet_on.Goals as goal

not_begun : counts_of 9001 (turns 9001 (three_ticks_later (three_with []))) ≡ None
not_begun = refl

begun : counts_of 9001 (turns 9001 (four_ticks_later (three_with [])))
    ≡ Some (record { ssrc = 9001; packets = 1; octets = 320; ts = 1000; moment = 60000000; rate = 8000 })
begun = refl

pub returns-clause-before : goal.returns-clause-before
returns-clause-before c w = c.counts.ensures 0 1 (three_ticks_later (three_with [])) refl w ∙ not_begun

pub returns-clause-after : goal.returns-clause-after
returns-clause-after c w = c.counts.ensures 0 1 (four_ticks_later (three_with [])) refl w ∙ begun
