-- The forms of lines: what `help` tells of each (own).
use Rattle.std.specs.Prelude.{ℕ, List, [], ◌∷◌, ◌++◌, codes}
use Rattle.desk_edit.specs.declared.refusal.Refusal.{Refusal}
use Rattle.desk_edit.specs.declared.refusal.Refusal.TheVariants as refusals
use Rattle.desk_edit.specs.declared.refusal.Reason.TheVariants as reasons
use Rattle.desk_edit.specs.declared.refusal.Standing.TheVariants as standings
use Rattle.desk_edit.specs.declared.refusal.Table.TheVariants as tables
use Rattle.desk_text.specs.declared.name.Name.TheVariants as names
use Rattle.desk_text.specs.declared.name.Head.TheVariants as heads
use Rattle.operator_lines.specs.declared.own.Own.TheVariants as owns
use Rattle.operator_lines.specs.declared.form_word.FormWord.{FormWord}
use Rattle.operator_lines.specs.declared.form_word.FormWord.TheVariants as places
use Rattle.operator_lines.specs.declared.topic.Topic.{Topic}
use Rattle.operator_lines.specs.declared.topic.Topic.TheVariants as topics

-- what a word of a line is
abbrev pub form_word_text : FormWord → List ℕ
form_word_text places.Room = codes "ROOM: the number of a room, 0 to 4294967295"
form_word_text places.Rate = codes "RATE: 8000 or 44100, in Hz; 8000 where it is left out"
form_word_text places.Member = codes "MEMBER: the number of a member, 0 to 4294967295"
form_word_text places.Address =
    codes "ADDRESS: where the member sends from and is sent to, such as 10.0.0.1:5000; its port is 1 to 65535"
form_word_text places.Codec = codes "CODEC: pcmu or l16"
form_word_text places.OutAudio = codes "OUT_AUDIO: the SSRC of the member's mix, 0 to 4294967295"
form_word_text places.FirstSeq = codes "FIRST_SEQ: the sequence number of the first packet, 0 to 65535"
form_word_text places.FirstTs = codes "FIRST_TS: the timestamp of the first packet, 0 to 4294967295"
form_word_text places.Ssrc = codes "SSRC: the SSRC of a source, 0 to 4294967295"
form_word_text places.Kind = codes "KIND: audio or video"
form_word_text places.OutSsrc = codes "OUT_SSRC: the SSRC of an outgoing video stream, 0 to 4294967295"
form_word_text places.Index = codes "INDEX: 0 to 15, another one for each slot of a member"
form_word_text places.Source = codes "SOURCE: the SSRC of a source, 0 to 4294967295"
form_word_text places.Gain = codes "Q8: 256 times the gain, 0 to 1024"
form_word_text places.Last = codes "LAST: the number of the last accepted call"
form_word_text places.Call = codes "N: the number of a call that is in force, as `history` tells it"
form_word_text places.Commands = codes "COMMAND: a command; 1 to 64 of them, with a word / between two"
form_word_text places.Most = codes "N: how many calls at most, 0 to 18446744073709551615; all where it is left out"
form_word_text places.Names = codes "names: each call is told with its moment and its name"
form_word_text places.Name = codes "NAME: 1 to 64 octets without a space; - is no name"
form_word_text places.Lease =
    codes "MS: for how many ms all may call, 0 to 4294967295, or off; without it what is left is told"
form_word_text places.Word = codes "WORD: the first word of a line"

-- the form of a line
abbrev pub form_of : Topic → List ℕ
form_of (topics.Command names.AddRoom) = codes "add-room ROOM [RATE]"
form_of (topics.Command names.RemoveRoom) = codes "remove-room ROOM"
form_of (topics.Command names.AddMember) = codes "add-member MEMBER ROOM ADDRESS CODEC OUT_AUDIO FIRST_SEQ FIRST_TS"
form_of (topics.Command names.RemoveMember) = codes "remove-member MEMBER"
form_of (topics.Command names.MoveMember) = codes "move-member MEMBER ROOM"
form_of (topics.Command names.AddSource) = codes "add-source SSRC MEMBER KIND"
form_of (topics.Command names.RemoveSource) = codes "remove-source SSRC"
form_of (topics.Command names.AddSlot) = codes "add-slot OUT_SSRC MEMBER INDEX FIRST_SEQ FIRST_TS"
form_of (topics.Command names.RemoveSlot) = codes "remove-slot OUT_SSRC"
form_of (topics.Command names.Subscribe) = codes "subscribe OUT_SSRC SOURCE"
form_of (topics.Command names.Unsubscribe) = codes "unsubscribe OUT_SSRC"
form_of (topics.Command names.SetGain) = codes "set-gain MEMBER SOURCE Q8"
form_of (topics.Command names.Mute) = codes "mute SOURCE"
form_of (topics.Command names.Unmute) = codes "unmute SOURCE"
form_of (topics.Command names.Pin) = codes "pin ROOM SOURCE"
form_of (topics.Command names.Unpin) = codes "unpin ROOM"
form_of (topics.Command names.GiveFloor) = codes "give-floor ROOM MEMBER"
form_of (topics.Command names.TakeFloor) = codes "take-floor ROOM"
form_of (topics.Head heads.Undo) = codes "undo LAST"
form_of (topics.Head heads.Redo) = codes "redo LAST"
form_of (topics.Head heads.Revert) = codes "revert N"
form_of (topics.Head heads.Group) = codes "group COMMAND / COMMAND .."
form_of (topics.Own owns.Show) = codes "show"
form_of (topics.Own owns.Groups) = codes "groups"
form_of (topics.Own owns.History) = codes "history [N]"
form_of (topics.Own owns.Calls) = codes "calls [N]"
form_of (topics.Own owns.Stats) = codes "stats"
form_of (topics.Own owns.Levels) = codes "levels"
form_of (topics.Own owns.Watch) = codes "watch [names]"
form_of (topics.Own owns.As) = codes "as NAME"
form_of (topics.Own owns.Lease) = codes "lease [MS]"
form_of (topics.Own owns.Why) = codes "why"
form_of (topics.Own owns.Help) = codes "help [WORD]"
form_of (topics.Own owns.Quit) = codes "quit"
form_of (topics.Own owns.Stop) = codes "stop"

-- the words behind its first
abbrev pub places_of : Topic → List FormWord
places_of (topics.Command names.AddRoom) = places.Room ∷ places.Rate ∷ []
places_of (topics.Command names.RemoveRoom) = places.Room ∷ []
places_of (topics.Command names.AddMember) =
    places.Member
    ∷ places.Room
    ∷ places.Address
    ∷ places.Codec
    ∷ places.OutAudio
    ∷ places.FirstSeq
    ∷ places.FirstTs
    ∷ []
places_of (topics.Command names.RemoveMember) = places.Member ∷ []
places_of (topics.Command names.MoveMember) = places.Member ∷ places.Room ∷ []
places_of (topics.Command names.AddSource) = places.Ssrc ∷ places.Member ∷ places.Kind ∷ []
places_of (topics.Command names.RemoveSource) = places.Ssrc ∷ []
places_of (topics.Command names.AddSlot) =
    places.OutSsrc
    ∷ places.Member
    ∷ places.Index
    ∷ places.FirstSeq
    ∷ places.FirstTs
    ∷ []
places_of (topics.Command names.RemoveSlot) = places.OutSsrc ∷ []
places_of (topics.Command names.Subscribe) = places.OutSsrc ∷ places.Source ∷ []
places_of (topics.Command names.Unsubscribe) = places.OutSsrc ∷ []
places_of (topics.Command names.SetGain) = places.Member ∷ places.Source ∷ places.Gain ∷ []
places_of (topics.Command names.Mute) = places.Source ∷ []
places_of (topics.Command names.Unmute) = places.Source ∷ []
places_of (topics.Command names.Pin) = places.Room ∷ places.Source ∷ []
places_of (topics.Command names.Unpin) = places.Room ∷ []
places_of (topics.Command names.GiveFloor) = places.Room ∷ places.Member ∷ []
places_of (topics.Command names.TakeFloor) = places.Room ∷ []
places_of (topics.Head heads.Undo) = places.Last ∷ []
places_of (topics.Head heads.Redo) = places.Last ∷ []
places_of (topics.Head heads.Revert) = places.Call ∷ []
places_of (topics.Head heads.Group) = places.Commands ∷ []
places_of (topics.Own owns.Show) = []
places_of (topics.Own owns.Groups) = []
places_of (topics.Own owns.History) = places.Most ∷ []
places_of (topics.Own owns.Calls) = places.Most ∷ []
places_of (topics.Own owns.Stats) = []
places_of (topics.Own owns.Levels) = []
places_of (topics.Own owns.Watch) = places.Names ∷ []
places_of (topics.Own owns.As) = places.Name ∷ []
places_of (topics.Own owns.Lease) = places.Lease ∷ []
places_of (topics.Own owns.Why) = []
places_of (topics.Own owns.Help) = places.Word ∷ []
places_of (topics.Own owns.Quit) = []
places_of (topics.Own owns.Stop) = []

-- the refusals of a call that begins so, each with the place of the word that it is about, or 0
abbrev pub blames_of : Topic → List (Refusal × ℕ)
blames_of (topics.Command names.AddRoom) =
    (refusals.Exists, 2)
    ∷ (refusals.BadValue, 3)
    ∷ (refusals.Full tables.Rooms 64, 0)
    ∷ (refusals.LogFull, 0)
    ∷ []
blames_of (topics.Command names.RemoveRoom) = (refusals.NoRoom, 2) ∷ (refusals.LogFull, 0) ∷ []
blames_of (topics.Command names.AddMember) =
    (refusals.Exists, 2)
    ∷ (refusals.NoRoom, 3)
    ∷ (refusals.SsrcTaken, 6)
    ∷ (refusals.BadValue, 4)
    ∷ (refusals.Full tables.Members 1024, 0)
    ∷ (refusals.RateMismatch, 5)
    ∷ (refusals.LogFull, 0)
    ∷ []
blames_of (topics.Command names.RemoveMember) = (refusals.NoMember, 2) ∷ (refusals.LogFull, 0) ∷ []
blames_of (topics.Command names.MoveMember) =
    (refusals.NoRoom, 3)
    ∷ (refusals.NoMember, 2)
    ∷ (refusals.Already, 0)
    ∷ (refusals.Full tables.RoomAudio 64, 0)
    ∷ (refusals.RateMismatch, 3)
    ∷ (refusals.LogFull, 0)
    ∷ []
blames_of (topics.Command names.AddSource) =
    (refusals.Exists, 2)
    ∷ (refusals.NoMember, 3)
    ∷ (refusals.SsrcTaken, 2)
    ∷ (refusals.Full tables.Sources 2048, 0)
    ∷ (refusals.LogFull, 0)
    ∷ []
blames_of (topics.Command names.RemoveSource) = (refusals.NoSource, 2) ∷ (refusals.LogFull, 0) ∷ []
blames_of (topics.Command names.AddSlot) =
    (refusals.Exists, 2)
    ∷ (refusals.NoMember, 3)
    ∷ (refusals.SsrcTaken, 2)
    ∷ (refusals.BadValue, 4)
    ∷ (refusals.Full tables.Slots 4096, 0)
    ∷ (refusals.LogFull, 0)
    ∷ []
blames_of (topics.Command names.RemoveSlot) = (refusals.NoSlot, 2) ∷ (refusals.LogFull, 0) ∷ []
blames_of (topics.Command names.Subscribe) =
    (refusals.NoSource, 3)
    ∷ (refusals.NoSlot, 2)
    ∷ (refusals.WrongKind, 3)
    ∷ (refusals.OtherRoom, 3)
    ∷ (refusals.Already, 0)
    ∷ (refusals.LogFull, 0)
    ∷ []
blames_of (topics.Command names.Unsubscribe) =
    (refusals.NoSlot, 2)
    ∷ (refusals.NotThere, 0)
    ∷ (refusals.LogFull, 0)
    ∷ []
blames_of (topics.Command names.SetGain) =
    (refusals.NoMember, 2)
    ∷ (refusals.NoSource, 3)
    ∷ (refusals.WrongKind, 3)
    ∷ (refusals.OtherRoom, 3)
    ∷ (refusals.BadValue, 4)
    ∷ (refusals.Already, 0)
    ∷ (refusals.Full tables.Gains 65536, 0)
    ∷ (refusals.LogFull, 0)
    ∷ []
blames_of (topics.Command names.Mute) = (refusals.NoSource, 2) ∷ (refusals.Already, 0) ∷ (refusals.LogFull, 0) ∷ []
blames_of (topics.Command names.Unmute) = (refusals.NoSource, 2) ∷ (refusals.NotThere, 0) ∷ (refusals.LogFull, 0) ∷ []
blames_of (topics.Command names.Pin) =
    (refusals.NoRoom, 2)
    ∷ (refusals.NoSource, 3)
    ∷ (refusals.WrongKind, 3)
    ∷ (refusals.OtherRoom, 3)
    ∷ (refusals.Already, 0)
    ∷ (refusals.LogFull, 0)
    ∷ []
blames_of (topics.Command names.Unpin) = (refusals.NoRoom, 2) ∷ (refusals.NotThere, 0) ∷ (refusals.LogFull, 0) ∷ []
blames_of (topics.Command names.GiveFloor) =
    (refusals.NoRoom, 2)
    ∷ (refusals.NoMember, 3)
    ∷ (refusals.OtherRoom, 3)
    ∷ (refusals.Already, 0)
    ∷ (refusals.LogFull, 0)
    ∷ []
blames_of (topics.Command names.TakeFloor) = (refusals.NoRoom, 2) ∷ (refusals.NotThere, 0) ∷ (refusals.LogFull, 0) ∷ []
blames_of (topics.Head heads.Undo) =
    (refusals.NewerCommand 0, 2)
    ∷ (refusals.NothingToUndo, 0)
    ∷ (refusals.LogFull, 0)
    ∷ []
blames_of (topics.Head heads.Redo) =
    (refusals.NewerCommand 0, 2)
    ∷ (refusals.NothingToRedo, 0)
    ∷ (refusals.LogFull, 0)
    ∷ []
blames_of (topics.Head heads.Revert) =
    (refusals.LogFull, 0)
    ∷ (refusals.NotInForce, 2)
    ∷ (refusals.TooFar 256, 2)
    ∷ (refusals.Conflict 0 0 reasons.NotThere, 0)
    ∷ (refusals.Elsewhere standings.Room 0, 0)
    ∷ []
blames_of (topics.Head heads.Group) =
    (refusals.GroupTooLong 64, 0)
    ∷ (refusals.LogFull, 0)
    ∷ (refusals.PartRefused 0 reasons.NotThere, 0)
    ∷ []
blames_of (topics.Own own) = []

-- an example
abbrev pub example_of : Topic → List ℕ
example_of (topics.Command names.AddRoom) = codes "add-room 1"
example_of (topics.Command names.RemoveRoom) = codes "remove-room 1"
example_of (topics.Command names.AddMember) = codes "add-member 10 1 10.0.0.1:5000 pcmu 9001 0 0"
example_of (topics.Command names.RemoveMember) = codes "remove-member 10"
example_of (topics.Command names.MoveMember) = codes "move-member 10 2"
example_of (topics.Command names.AddSource) = codes "add-source 201 10 audio"
example_of (topics.Command names.RemoveSource) = codes "remove-source 201"
example_of (topics.Command names.AddSlot) = codes "add-slot 501 10 0 0 0"
example_of (topics.Command names.RemoveSlot) = codes "remove-slot 501"
example_of (topics.Command names.Subscribe) = codes "subscribe 501 101"
example_of (topics.Command names.Unsubscribe) = codes "unsubscribe 501"
example_of (topics.Command names.SetGain) = codes "set-gain 10 201 128"
example_of (topics.Command names.Mute) = codes "mute 201"
example_of (topics.Command names.Unmute) = codes "unmute 201"
example_of (topics.Command names.Pin) = codes "pin 1 101"
example_of (topics.Command names.Unpin) = codes "unpin 1"
example_of (topics.Command names.GiveFloor) = codes "give-floor 1 10"
example_of (topics.Command names.TakeFloor) = codes "take-floor 1"
example_of (topics.Head heads.Undo) = codes "undo 7"
example_of (topics.Head heads.Redo) = codes "redo 8"
example_of (topics.Head heads.Revert) = codes "revert 5"
example_of (topics.Head heads.Group) = codes "group mute 201 / mute 202"
example_of (topics.Own owns.Show) = codes "show"
example_of (topics.Own owns.Groups) = codes "groups"
example_of (topics.Own owns.History) = codes "history 20"
example_of (topics.Own owns.Calls) = codes "calls 20"
example_of (topics.Own owns.Stats) = codes "stats"
example_of (topics.Own owns.Levels) = codes "levels"
example_of (topics.Own owns.Watch) = codes "watch names"
example_of (topics.Own owns.As) = codes "as bob"
example_of (topics.Own owns.Lease) = codes "lease 5000"
example_of (topics.Own owns.Why) = codes "why"
example_of (topics.Own owns.Help) = codes "help add-member"
example_of (topics.Own owns.Quit) = codes "quit"
example_of (topics.Own owns.Stop) = codes "stop"

-- all lines
abbrev pub all_topics : List Topic
all_topics =
    (topics.Command names.AddRoom)
    ∷ (topics.Command names.RemoveRoom)
    ∷ (topics.Command names.AddMember)
    ∷ (topics.Command names.RemoveMember)
    ∷ (topics.Command names.MoveMember)
    ∷ (topics.Command names.AddSource)
    ∷ (topics.Command names.RemoveSource)
    ∷ (topics.Command names.AddSlot)
    ∷ (topics.Command names.RemoveSlot)
    ∷ (topics.Command names.Subscribe)
    ∷ (topics.Command names.Unsubscribe)
    ∷ (topics.Command names.SetGain)
    ∷ (topics.Command names.Mute)
    ∷ (topics.Command names.Unmute)
    ∷ (topics.Command names.Pin)
    ∷ (topics.Command names.Unpin)
    ∷ (topics.Command names.GiveFloor)
    ∷ (topics.Command names.TakeFloor)
    ∷ (topics.Head heads.Undo)
    ∷ (topics.Head heads.Redo)
    ∷ (topics.Head heads.Revert)
    ∷ (topics.Head heads.Group)
    ∷ (topics.Own owns.Show)
    ∷ (topics.Own owns.Groups)
    ∷ (topics.Own owns.History)
    ∷ (topics.Own owns.Calls)
    ∷ (topics.Own owns.Stats)
    ∷ (topics.Own owns.Levels)
    ∷ (topics.Own owns.Watch)
    ∷ (topics.Own owns.As)
    ∷ (topics.Own owns.Lease)
    ∷ (topics.Own owns.Why)
    ∷ (topics.Own owns.Help)
    ∷ (topics.Own owns.Quit)
    ∷ (topics.Own owns.Stop)
    ∷ []
