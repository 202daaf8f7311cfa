use Rattle.bridge_core.proofs.LedBack.{all_asked_again}
use Rattle.bridge_core.proofs.laws.resends_lead_back.Goals as goal

pub returns : goal.returns
returns c who lanes lane start before request h all =
    all_asked_again c.found_is_what_was_sent.ensures.found c.found_is_what_was_sent.ensures.all
    c.time_goes_on.ensures.all who lanes lane start before request
    (c.streams_are_routed_lists.ensures who lanes start before request.out_ssrc h all)
