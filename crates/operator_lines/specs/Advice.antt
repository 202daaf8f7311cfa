-- What a refusal and a fault mean, and what to do (own). `why`, the page and FORMATS have these words.
use Rattle.std.specs.Prelude.{ℕ, List, codes}
use Rattle.desk_edit.specs.declared.refusal.Refusal.{Refusal}
use Rattle.desk_edit.specs.declared.refusal.Refusal.TheVariants as refusals
use Rattle.desk_text.specs.declared.fault.Fault.{Fault}
use Rattle.desk_text.specs.declared.fault.Fault.TheVariants as faults

-- of each refusal
abbrev pub refusal_advice : Refusal → List ℕ
refusal_advice refusals.Exists =
    codes "it is there already: take another number, address, SSRC or index, or remove what is there"
refusal_advice refusals.NoRoom = codes "there is no such room: it may have been removed"
refusal_advice refusals.NoMember = codes "there is no such member: it may have been removed"
refusal_advice refusals.NoSource = codes "there is no such source: it may have gone with its member"
refusal_advice refusals.NoSlot = codes "there is no such slot: it may have gone with its member"
refusal_advice refusals.WrongKind =
    codes "the source is of the other kind: `set-gain` takes audio, `subscribe` and `pin` take video"
refusal_advice refusals.OtherRoom = codes "they are in two rooms: move the member, or choose within the room"
refusal_advice refusals.SsrcTaken = codes "the SSRC is used already: take another one"
refusal_advice refusals.BadValue =
    codes "a value is out of range: port 1 to 65535, index 0 to 15, gain 0 to 1024, rate 8000 or 44100"
refusal_advice refusals.Already = codes "nothing to do: the desk is so already"
refusal_advice refusals.NotThere = codes "nothing to do: there is none to take away"
refusal_advice (refusals.Full table limit) = codes "the table is full: remove something, or use another room"
refusal_advice refusals.OutOfMemory = codes "the bridge is out of memory: try again"
refusal_advice (refusals.NewerCommand last) =
    codes "another change came first: look at it, then name its number, or take your own call back by `revert`"
refusal_advice refusals.NothingToUndo = codes "there is nothing to undo"
refusal_advice refusals.NothingToRedo = codes "there is nothing to redo"
refusal_advice refusals.LogFull = codes "the log is full: start the bridge anew"
refusal_advice refusals.EmptyGroup = codes "the group is empty"
refusal_advice (refusals.GroupTooLong limit) = codes "the group has over 64 commands: make it smaller"
refusal_advice (refusals.PartRefused part why) = codes "one command of the group is refused, so none of it happened"
refusal_advice refusals.RateMismatch =
    codes "the room has another rate: one of 44100 Hz takes l16 alone, and members move between rooms of one rate"
refusal_advice refusals.NotInForce =
    codes "no such call is in force: it was undone or reverted, is an undo or a redo, or was never made; see `history`"
refusal_advice (refusals.TooFar limit) =
    codes "over 256 commands lie behind it: give the command that takes it back, such as `unmute`"
refusal_advice (refusals.Conflict call part why) =
    codes "a later call rests on it: revert that one first, or give the command that takes yours back"
refusal_advice (refusals.Elsewhere kind number) =
    codes "somebody else would come or go with it: give the command that takes it back"

-- of each fault of a line
abbrev pub fault_advice : Fault → List ℕ
fault_advice faults.LineTooLong = codes "the line is too long: 4096 octets are the most"
fault_advice faults.BadByte = codes "an octet is none of a space to ~, and ends the connection"
fault_advice faults.UnknownWord = codes "the word is none of those that may stand there"
fault_advice faults.MissingWord = codes "a word is missing"
fault_advice faults.ExtraWord = codes "a word is too many, and each space makes one, also at the end"
fault_advice faults.BadNumber = codes "that is no number, or out of range"
fault_advice faults.BadAddress = codes "that is no address, such as 127.0.0.1:6000"
fault_advice faults.BadHex = codes "those are no octets in hexadecimal"
fault_advice faults.BadFrame = codes "those packets make no frame"
