-- What each command does to rows: it puts one, takes one, or moves a member.
use Rattle.desk_rows.specs.declared.row.Row.TheVariants as rows
use Rattle.desk_rows.specs.declared.key.Key.TheVariants as keys
use Rattle.desk_edit.specs.declared.command.Command.{Command}
use Rattle.desk_edit.specs.declared.command.Command.TheVariants as commands
use Rattle.desk_edit.specs.declared.command.Form.{Form}
use Rattle.desk_edit.specs.declared.command.Form.TheVariants.{Put, Remove, Move}

-- what each command does to rows: puts one, or one in another's stead, removes the row of a key, or moves a member
abbrev pub form_of : Command → Form
form_of (commands.AddRoom r) = Put (rows.Room r)
form_of (commands.RemoveRoom room) = Remove (keys.Room room)
form_of (commands.AddMember m) = Put (rows.Member m)
form_of (commands.RemoveMember member) = Remove (keys.Member member)
form_of (commands.MoveMember member room) = Move member room
form_of (commands.AddSource s) = Put (rows.Source s)
form_of (commands.RemoveSource ssrc) = Remove (keys.Source ssrc)
form_of (commands.AddSlot s) = Put (rows.Slot s)
form_of (commands.RemoveSlot out_ssrc) = Remove (keys.Slot out_ssrc)
form_of (commands.Subscribe s) = Put (rows.Sub s)
form_of (commands.Unsubscribe out_ssrc) = Remove (keys.Sub out_ssrc)
form_of (commands.SetGain g) = Put (rows.Gain g)
form_of (commands.Mute m) = Put (rows.Mute m)
form_of (commands.Unmute source) = Remove (keys.Mute source)
form_of (commands.Pin p) = Put (rows.Pin p)
form_of (commands.Unpin room) = Remove (keys.Pin room)
form_of (commands.GiveFloor f) = Put (rows.Floor f)
form_of (commands.TakeFloor room) = Remove (keys.Floor room)
