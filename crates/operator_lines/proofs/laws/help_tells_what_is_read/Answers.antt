use Rattle.std.proofs.Common.{◌≡◌, map, Some, refl}
use Rattle.desk_text.specs.Calls.{shape_of}
use Rattle.desk_text.specs.declared.name.Name.{Name}
use Rattle.desk_text.specs.declared.name.Name.TheVariants as names
use Rattle.operator_lines.specs.Forms.{places_of}
use Rattle.operator_lines.specs.declared.topic.Topic.TheVariants.{Command}
use Rattle.operator_lines.specs.laws.Read.{field_of_word}
use Rattle.operator_lines.proofs.laws.help_tells_what_is_read.Goals as goal

read : (name : Name) → map field_of_word (places_of (Command name)) ≡ map Some (shape_of name)
read names.AddRoom = refl
read names.RemoveRoom = refl
read names.AddMember = refl
read names.RemoveMember = refl
read names.MoveMember = refl
read names.AddSource = refl
read names.RemoveSource = refl
read names.AddSlot = refl
read names.RemoveSlot = refl
read names.Subscribe = refl
read names.Unsubscribe = refl
read names.SetGain = refl
read names.Mute = refl
read names.Unmute = refl
read names.Pin = refl
read names.Unpin = refl
read names.GiveFloor = refl
read names.TakeFloor = refl

pub returns : goal.returns
returns c = read
