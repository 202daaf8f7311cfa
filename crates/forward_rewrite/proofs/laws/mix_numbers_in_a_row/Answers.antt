use Rattle.forward_rewrite.specs.Mixes.{begun}
use Rattle.forward_rewrite.proofs.Pace.{numbered_from}
use Rattle.forward_rewrite.proofs.laws.mix_numbers_in_a_row.Goals as goal

pub returns : goal.returns
returns c ssrc first_seq first_ts ticks = numbered_from ssrc first_seq first_ts (begun ticks)
