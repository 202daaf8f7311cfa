use Rattle.std.proofs.Common.{map}
use Rattle.rtcp_codec.specs.Description.{item_octets, FitsItem}
use Rattle.rtcp_codec.specs.View.{item_of}
use Rattle.rtcp_codec.proofs.Descriptions.{items_behind}
use Rattle.rtcp_codec.proofs.Lists.{AllByRecursion-push, text_more, map_more}
use Rattle.rtcp_codec.proofs.reading_descriptions.items_from.Goals as goal

pub loop-rest-preserved : goal.loop-rest-preserved
loop-rest-preserved g c =
    let item = c.in_ok-item.item in
    let so_far = c.loop-rest.items.items in
    let e = c.in_ok-push.ensures.items in
    record {
      fits =
          rw (e, map_more item_of so_far item) (AllByRecursion-push FitsItem (map item_of so_far) (item_of item)
          c.loop-rest.invariant.fits c.in_ok-item.ensures.fits);
      parts =
          rw (e, map_more item_of so_far item)
          (text_more item_octets c.args.octets.now (map item_of so_far) (item_of item)
          c.loop-rest.rest.now _ c.loop-rest.invariant.parts c.in_ok-item.ensures.parts);
      whole =
          items_behind (item_of item) c.loop-rest.rest.now _ c.in_ok-item.ensures.fits c.in_ok-item.ensures.parts
          c.loop-rest.invariant.whole;
    }
