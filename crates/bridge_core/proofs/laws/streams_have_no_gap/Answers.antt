use Rattle.bridge_core.specs.Headline.{HaveNoGap, numbers}
use Rattle.bridge_core.specs.Named.{StreamKind, firsts}
use Rattle.bridge_core.proofs.RoutedLists.{no_video_gap}
use Rattle.bridge_core.proofs.MixesSent.{no_mix_gap}
use Rattle.bridge_core.proofs.laws.streams_have_no_gap.Goals as goal

pub returns : goal.returns
returns c who lanes start steps name h all =
    elim name.kind as (λ (kind : StreamKind).
    HaveNoGap (numbers (firsts who lanes start (record { kind = kind; ssrc = name.ssrc }) steps))) [
      | StreamKind.video ↦
          no_video_gap who lanes start steps name.ssrc
          (c.streams_are_routed_lists.ensures who lanes start steps name.ssrc h all) c.numbers_in_a_row.ensures.row
      | StreamKind.mix ↦
          no_mix_gap who lanes start steps name.ssrc
          (c.mixes_are_mix_lists.ensures who lanes start steps name.ssrc h all)
          c.mixes_are_in_a_row.ensures
    ]
