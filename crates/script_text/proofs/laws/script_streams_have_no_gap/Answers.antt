use Rattle.script_text.specs.Bridge.{first_desk}
use Rattle.script_text.specs.Scripts.{speaker_of, steps_of}
use Rattle.script_text.proofs.GoodDesks.{Keeps, first_good, steps_good}
use Rattle.script_text.proofs.laws.script_streams_have_no_gap.Goals as goal

pub returns-clause-good : goal.returns-clause-good
returns-clause-good c =
    let law = c.histories_stay_sound.ensures in
    steps_good record { begins = law.begins; goes_on = law.goes_on; good = law.good }

pub returns-clause-no_gap : goal.returns-clause-no_gap
returns-clause-no_gap c decoding input name =
    let who = speaker_of input in
    let law = c.histories_stay_sound.ensures in
    let keeps : Keeps = record { begins = law.begins; goes_on = law.goes_on; good = law.good } in
    c.streams_have_no_gap.ensures who 1 (first_desk who) (steps_of decoding input) name (first_good who)
    (steps_good keeps decoding input)
