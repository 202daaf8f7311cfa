-- What there is are the inputs of the voices so far.
use Rattle.std.proofs.Common.{◌≡◌, map, take}
use Rattle.mixer.specs.inner.Rooms.{plain, plain_voice, of_room}
use Rattle.mixer.proofs.rooms.inputs_of.Given as goal

abbrev pub invariant-loop-voice : goal.invariant-loop-voice
invariant-loop-voice g l = map plain l.inputs.items ≡ map plain_voice (of_room l.room (take l.voice-index l.voices))
