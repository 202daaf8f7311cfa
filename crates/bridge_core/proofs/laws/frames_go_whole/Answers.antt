use Rattle.std.proofs.Common.{◌+◌}
use Rattle.bridge_core.specs.Steps.{version_of, desk_of, items_given, visits}
use Rattle.bridge_core.proofs.Chosen.{goes_whole}
use Rattle.bridge_core.proofs.laws.frames_go_whole.Goals as goal

pub returns : goal.returns
returns c who lanes lane start before f ssrc r h mine at =
    goes_whole (version_of before) (items_given lane before + 1) (desk_of start before) f (record {
      grows = λ k first_seq first_ts before next.
          let whole = c.each_frame_goes_whole.ensures.whole k first_seq first_ts before next in
          (_, whole.ts, whole.packets);
      found = λ d f good.
          record {
            apart = c.receivers_are_distinct.ensures d f.source f.address good;
            found = λ k. c.all_who_chose_receive.ensures d f.source f.address k good;
          };
    }) (visits lane start before) h who lane lanes ssrc r mine at
