use Rattle.bridge_core.proofs.Telling.{all_count_firsts}
use Rattle.bridge_core.proofs.laws.reports_count_first_sendings.Goals as goal

pub returns : goal.returns
returns c who lanes lane start before moment h all = (
  all_count_firsts who lanes lane start before moment
      (λ k. c.streams_are_routed_lists.ensures who lanes start before k h all)
      (λ k. c.mixes_are_mix_lists.ensures who lanes start before k h all),
  tt,
)
