use Rattle.forward_rewrite.proofs.Mixing.{silence_list, list_more}
use Rattle.forward_rewrite.proofs.Pace.{first_packet, keeps_pace}
use Rattle.forward_rewrite.proofs.laws.mix_time_goes_on.Goals as goal

pub returns-clause-first : goal.returns-clause-first
returns-clause-first c = first_packet

pub returns-clause-silence : goal.returns-clause-silence
returns-clause-silence c = silence_list

pub returns-clause-more : goal.returns-clause-more
returns-clause-more c ssrc first_seq first_ts before tick =
    list_more ssrc first_seq first_ts before tick.sound tick.rate tick.moment

pub returns-clause-pace : goal.returns-clause-pace
returns-clause-pace c = keeps_pace
