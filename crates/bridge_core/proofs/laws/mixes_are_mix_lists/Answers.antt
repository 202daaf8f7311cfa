use Rattle.bridge_core.proofs.MixesSent.{mix_list}
use Rattle.bridge_core.proofs.laws.mixes_are_mix_lists.Goals as goal

pub returns : goal.returns
returns c who lanes start steps ssrc h all =
    mix_list (record {
      behind = c.ticks_add_what_is_heard.ensures.behind;
      heard = c.ticks_add_what_is_heard.ensures.heard;
      samples = c.ticks_add_what_is_heard.ensures.samples;
      renewing = c.ticks_add_what_is_heard.ensures.renewing;
      once = c.mixes_go_to_their_members.ensures;
    }) who lanes ssrc start steps h all
