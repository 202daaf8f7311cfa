use Rattle.std.proofs.Common.{refl, inr, ap, subst}
use Rattle.std.specs.declared.alloc.Global.{Global}
use Rattle.media_items.specs.Inputs.{Input, input_of}
use Rattle.media_items.specs.declared.item.Item.{Item}
use Rattle.media_front.specs.FedLanes.{IsFed, dropping}
use Rattle.media_front.proofs.feed.LaneFeed.give_share.Goals as goal

pub returns-in-Ok : goal.returns-in-Ok
returns-in-Ok g c x at =
    let step = c.give_one.ensures x at in (
      step.0,
      subst (λ (input : Input). IsFed input x step.0) (ap (λ (item : Item Global). input_of item) c.in-Ok.ensures)
          step.1,
      step.2,
    )

pub returns-in-Err : goal.returns-in-Err
returns-in-Err g c x at = (dropping x, inr refl, c.drop_one.ensures x at)
