use Rattle.std.proofs.Common.{None}
use Rattle.playout.specs.Renewal.{no_tally}
use Rattle.playout.proofs.Unasked.{plain_from}
use Rattle.playout.proofs.laws.nothing_is_renewed_unasked.Goals as goal

pub returns : goal.returns
returns c source address events unasked = plain_from source address events None no_tally unasked
