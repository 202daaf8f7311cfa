use Rattle.mixer.specs.Mixes.{turns}
use Rattle.mixer.proofs.OverTicks.{row_of}
use Rattle.mixer.proofs.laws.mixes_are_in_a_row.Goals as goal

pub returns : goal.returns
returns c ssrc given = row_of ssrc (turns ssrc given)
