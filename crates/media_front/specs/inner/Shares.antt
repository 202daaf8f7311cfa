-- Items that lanes share.
use Rattle.std.specs.Arc.{arc_value}
use Rattle.std.specs.declared.alloc.Global.{Global}
use Rattle.std.specs.declared.sync.Arc.{Arc}
use Rattle.media_items.specs.Inputs.{Input, input_of}
use Rattle.media_items.specs.declared.item.Item.{Item}

-- what a lane is given of a shared item
abbrev pub input_shared : Arc (Item Global) Global → Input
input_shared item = input_of (arc_value item)
