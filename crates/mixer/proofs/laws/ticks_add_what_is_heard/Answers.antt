use Rattle.mixer.proofs.OverTicks.{tick_behind, tick_heard, put_adds_nothing, renew_adds_nothing}
use Rattle.mixer.proofs.laws.ticks_add_what_is_heard.Goals as goal

pub returns-clause-behind : goal.returns-clause-behind
returns-clause-behind c ssrc before d moment = tick_behind ssrc before d moment

pub returns-clause-heard : goal.returns-clause-heard
returns-clause-heard c ssrc before d moment = tick_heard ssrc before d moment

pub returns-clause-samples : goal.returns-clause-samples
returns-clause-samples c ssrc before source address rate ts samples =
    put_adds_nothing ssrc before source address rate ts samples

pub returns-clause-renewing : goal.returns-clause-renewing
returns-clause-renewing c ssrc before = renew_adds_nothing ssrc before
