use Rattle.bridge_core.proofs.RoutedLists.{routed_list}
use Rattle.bridge_core.proofs.laws.streams_are_routed_lists.Goals as goal

pub returns : goal.returns
returns c who lanes start steps ssrc h all =
    routed_list (record {
      grows = λ k first_seq first_ts before next.
          let whole = c.each_frame_goes_whole.ensures.whole k first_seq first_ts before next in
          (_, whole.ts, whole.packets);
      found = λ d f good.
          record {
            apart = c.receivers_are_distinct.ensures d f.source f.address good;
            found = λ k. c.all_who_chose_receive.ensures d f.source f.address k good;
          };
    }) who lanes ssrc start steps h all
