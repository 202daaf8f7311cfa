use Rattle.std.proofs.Common.{[], ◌∷◌, ◌++◌}
use Rattle.rtcp_codec.specs.Description.{item_octets, FitsItem}
use Rattle.rtcp_codec.proofs.Descriptions.{items_behind}
use Rattle.rtcp_codec.proofs.Lists.{AllByRecursion-push, text_more}
use Rattle.rtcp_codec.proofs.judging_descriptions.behind_items.Goals as goal

pub loop-rest-preserved : goal.loop-rest-preserved
loop-rest-preserved c =
    let so_far = c.loop-rest.invariant.parts in
    let item = c.in_ok-rest.ensures.some in
    record {
      parts = (
        so_far.0 ++ item.0 ∷ [],
        AllByRecursion-push FitsItem so_far.0 item.0 so_far.1 item.1,
        text_more item_octets c.args.octets.now so_far.0 item.0 c.loop-rest.rest.now c.in_ok-rest.rest.now so_far.2
            item.2,
      );
      whole = λ h.
          items_behind item.0 c.loop-rest.rest.now c.in_ok-rest.rest.now item.1 item.2 (c.loop-rest.invariant.whole h);
    }
