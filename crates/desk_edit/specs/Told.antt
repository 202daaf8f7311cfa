-- How refusals are reported (own): one table of numbers, names, and what each carries.
use Rattle.std.specs.Prelude.{ℕ, List, codes}
use Rattle.desk_edit.specs.declared.refusal.Table.{Table}
use Rattle.desk_edit.specs.declared.refusal.Table.TheVariants.{Rooms, Members, Sources, Slots, Gains, RoomAudio}
use Rattle.desk_edit.specs.declared.refusal.Refusal.{Refusal}
use Rattle.desk_edit.specs.declared.refusal.Refusal.TheVariants.{Exists, NoRoom, NoMember, NoSource, NoSlot, WrongKind}
use Rattle.desk_edit.specs.declared.refusal.Refusal.TheVariants.{OtherRoom, SsrcTaken, BadValue, Already, NotThere}
use Rattle.desk_edit.specs.declared.refusal.Refusal.TheVariants.{Full, OutOfMemory, NewerCommand, NothingToUndo}
use Rattle.desk_edit.specs.declared.refusal.Refusal.TheVariants.{NothingToRedo, LogFull, EmptyGroup, GroupTooLong}
use Rattle.desk_edit.specs.declared.refusal.Refusal.TheVariants.{PartRefused, RateMismatch, NotInForce, TooFar}
use Rattle.desk_edit.specs.declared.refusal.Refusal.TheVariants.{Conflict, Elsewhere}
use Rattle.desk_edit.specs.declared.refusal.Standing.{Standing}
use Rattle.desk_edit.specs.declared.refusal.Standing.TheVariants as standings
use Rattle.desk_edit.specs.declared.refusal.Carried.{Carried}
use Rattle.desk_edit.specs.declared.refusal.Carried.TheVariants.{Nothing, Limit, Last, Most, Part, InCall, Row}
use Rattle.desk_edit.specs.declared.refusal.RefusalRow.{RefusalRow}

-- the name of what is full
abbrev pub table_text : Table → List ℕ
table_text Rooms = codes "rooms"
table_text Members = codes "members"
table_text Sources = codes "sources"
table_text Slots = codes "slots"
table_text Gains = codes "gains"
table_text RoomAudio = codes "room-audio"

-- the name of a kind of row that others hang on
abbrev pub standing_text : Standing → List ℕ
standing_text standings.Room = codes "room"
standing_text standings.Member = codes "member"
standing_text standings.Source = codes "source"
standing_text standings.Slot = codes "slot"

-- how a refusal is told: its number, its name, and what it carries
pub record Told : Type 0 where
  pub number : ℕ
  pub name : List ℕ
  pub carries : Carried

-- the refusals
abbrev pub told_of : Refusal → Told
told_of Exists = record { number = 1; name = codes "Exists"; carries = Nothing }
told_of NoRoom = record { number = 2; name = codes "NoRoom"; carries = Nothing }
told_of NoMember = record { number = 3; name = codes "NoMember"; carries = Nothing }
told_of NoSource = record { number = 4; name = codes "NoSource"; carries = Nothing }
told_of NoSlot = record { number = 5; name = codes "NoSlot"; carries = Nothing }
told_of WrongKind = record { number = 6; name = codes "WrongKind"; carries = Nothing }
told_of OtherRoom = record { number = 7; name = codes "OtherRoom"; carries = Nothing }
told_of SsrcTaken = record { number = 8; name = codes "SsrcTaken"; carries = Nothing }
told_of BadValue = record { number = 9; name = codes "BadValue"; carries = Nothing }
told_of Already = record { number = 10; name = codes "Already"; carries = Nothing }
told_of NotThere = record { number = 11; name = codes "NotThere"; carries = Nothing }
told_of (Full table limit) = record { number = 12; name = codes "Full"; carries = Limit table limit }
told_of OutOfMemory = record { number = 13; name = codes "OutOfMemory"; carries = Nothing }
told_of (NewerCommand last) = record { number = 14; name = codes "NewerCommand"; carries = Last last }
told_of NothingToUndo = record { number = 15; name = codes "NothingToUndo"; carries = Nothing }
told_of NothingToRedo = record { number = 16; name = codes "NothingToRedo"; carries = Nothing }
told_of LogFull = record { number = 17; name = codes "LogFull"; carries = Nothing }
told_of EmptyGroup = record { number = 18; name = codes "EmptyGroup"; carries = Nothing }
told_of (GroupTooLong limit) = record { number = 19; name = codes "GroupTooLong"; carries = Most limit }
told_of (PartRefused part why) = record { number = 20; name = codes "PartRefused"; carries = Part part why }
told_of RateMismatch = record { number = 21; name = codes "RateMismatch"; carries = Nothing }
told_of NotInForce = record { number = 23; name = codes "NotInForce"; carries = Nothing }
told_of (TooFar limit) = record { number = 24; name = codes "TooFar"; carries = Most limit }
told_of (Conflict call part why) = record { number = 25; name = codes "Conflict"; carries = InCall call part why }
told_of (Elsewhere kind number) = record { number = 26; name = codes "Elsewhere"; carries = Row kind number }

-- what a row of the code tells
abbrev pub told_in : RefusalRow → Told
told_in row = record { number = row.number; name = row.name.now; carries = row.carried }
