-- Items that the front makes itself.
use Rattle.media_items.specs.Inputs.{Input}
use Rattle.media_front.specs.declared.timer_item.TimerItem.{TimerItem}
use Rattle.media_front.specs.declared.timer_item.TimerItem.TheVariants.{Tick, Report, Renew}

-- what a lane is given
abbrev pub input_at : TimerItem → Input
input_at (Tick moment) = Input.tick moment
input_at (Report moment) = Input.report moment
input_at Renew = Input.renew
