-- Commands of worked calls, by the fields in which they differ.
use Rattle.std.specs.Prelude.{ℕ}
use Rattle.desk_rows.specs.declared.row.Media.TheVariants.{Audio, Video}
use Rattle.desk_edit.specs.declared.command.Command.{Command}
use Rattle.desk_edit.specs.declared.command.Command.TheVariants as commands
use Rattle.worked_desk.specs.Rows.{member}

abbrev pub add_room : ℕ → Command
add_room number = commands.AddRoom (record { room = number; rate = 8000 })

abbrev pub remove_room : ℕ → Command
remove_room number = commands.RemoveRoom number

-- by number, room, port at 10.0.0.1 and the SSRC of the mix
abbrev pub add_member : ℕ → ℕ → ℕ → ℕ → Command
add_member number room port out_audio = commands.AddMember (member number room port out_audio)

abbrev pub remove_member : ℕ → Command
remove_member number = commands.RemoveMember number

-- by SSRC and member
abbrev pub add_video : ℕ → ℕ → Command
add_video ssrc member = commands.AddSource (record { ssrc = ssrc; member = member; media = Video })

abbrev pub add_audio : ℕ → ℕ → Command
add_audio ssrc member = commands.AddSource (record { ssrc = ssrc; member = member; media = Audio })

-- by SSRC, member and index
abbrev pub add_slot : ℕ → ℕ → ℕ → Command
add_slot out_ssrc member index =
    commands.AddSlot
    (record { out_ssrc = out_ssrc; member = member; index = index; first_seq = 65535; first_ts = 1000 })

abbrev pub remove_slot : ℕ → Command
remove_slot out_ssrc = commands.RemoveSlot out_ssrc

abbrev pub subscribe : ℕ → ℕ → Command
subscribe out_ssrc source = commands.Subscribe (record { out_ssrc = out_ssrc; source = source })
