use Rattle.std.proofs.Common.{◌+◌}
use Rattle.bridge_core.specs.Steps.{version_of, desk_of, items_given, visits}
use Rattle.bridge_core.proofs.MixesHeard.{all_mixes}
use Rattle.bridge_core.proofs.laws.mixes_are_heard.Goals as goal

pub returns : goal.returns
returns c who lanes lane start before moment h = (
  all_mixes (record {
    behind = c.ticks_add_what_is_heard.ensures.behind;
    heard = c.ticks_add_what_is_heard.ensures.heard;
    samples = c.ticks_add_what_is_heard.ensures.samples;
    renewing = c.ticks_add_what_is_heard.ensures.renewing;
    once = c.mixes_go_to_their_members.ensures;
  }) (version_of before) (items_given lane before + 1) (desk_of start before) moment (visits lane start before)
      (λ front m back e. c.mixes_are_apart.ensures (desk_of start before) front m back h e) who lane lanes,
  tt,
)
