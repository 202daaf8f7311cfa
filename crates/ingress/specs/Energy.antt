-- What is counted of sound (the energy is totalAudioEnergy of the W3C's webrtc-stats, in units of its own).
use Rattle.std.specs.Prelude.{ℕ, ℤ, ◌*◌, ◌/◌, Bool, true, false, if◌then◌else◌, List, [], length, sum_by}
use Rattle.std.specs.Prelude.{Option, None, Some}
use Rattle.std.specs.Int.RustNames.{unsigned_abs}
use Rattle.rtp_codec.specs.declared.address.Address.{Address}
use Rattle.rtp_codec.specs.Packet.{Packet}
use Rattle.media_items.specs.declared.format.Format.{Format}
use Rattle.media_items.specs.Formats.{samples_of_packet}
use Rattle.desk_rows.specs.Desk.{Desk}
use Rattle.desk_rows.specs.declared.row.Media.{Media}
use Rattle.desk_rows.specs.declared.row.Media.TheVariants.{Audio, Video}
use Rattle.desk_rows.specs.declared.row.Source.{Source}
use Rattle.topology.specs.Looking.{source_from}
use Rattle.ingress.specs.declared.outcome.Outcome.{Outcome}
use Rattle.ingress.specs.declared.outcome_class.Disposition.{Disposition}
use Rattle.ingress.specs.declared.outcome_class.Disposition.TheVariants.{Dropped, Probation, OnTime, Late, Duplicate}
use Rattle.ingress.specs.declared.outcome_class.Disposition.TheVariants.{Restarted, Compound}
use Rattle.ingress.specs.Outcomes.{disposition_of}
use Rattle.ingress.specs.declared.sound_count.SoundCount.{SoundCount}
use Rattle.ingress.specs.Readings.{Reading, too_long, neither, no_packet, packet, no_compound, compound}
use Rattle.ingress.specs.Media.{audio_format}
use Rattle.ingress.specs.Taking.{room_rate}

-- the square of a sample
abbrev pub square : ℤ → ℕ
square sample = unsigned_abs sample * unsigned_abs sample

-- the energy of samples: the sum of their squares in units of 1,024, rounded down
abbrev pub energy_of : List ℤ → ℕ
energy_of samples = sum_by square samples / 1024

-- what is counted of samples: how many they are, and their energy
abbrev pub count_of_samples : List ℤ → SoundCount
count_of_samples samples = record { samples = length samples; energy = energy_of samples }

-- no sound
abbrev pub no_sound : SoundCount
no_sound = record { samples = 0; energy = 0 }

-- Sound with this disposition is heard: it is accepted. Sound has no gate, so that none of it is late or a duplicate.
abbrev pub sounds_by : Disposition → Bool
sounds_by Dropped = false
sounds_by Probation = false
sounds_by (OnTime ext) = true
sounds_by (Late ext) = false
sounds_by (Duplicate ext) = false
sounds_by (Restarted ext) = true
sounds_by (Compound packets) = false

-- sound with this outcome is heard
abbrev pub is_heard : Outcome → Bool
is_heard outcome = sounds_by (disposition_of outcome)

-- the samples of a payload of this format, and none where it has no format
abbrev pub samples_in : Option Format → List ℕ → List ℤ
samples_in None payload = []
samples_in (Some format) payload = samples_of_packet format payload

-- the samples of a packet of a source that sends this, in a room of this clock rate; video has none
abbrev pub samples_by : Media → (rate : ℕ) → Packet → List ℤ
samples_by Audio rate p = samples_in (audio_format rate p.header.pt (length p.payload)) p.payload
samples_by Video rate p = []

-- the samples of a packet of the source in a row
abbrev pub samples_for : Desk → Option Source → Packet → List ℤ
samples_for d None p = []
samples_for d (Some row) p = samples_by row.media (room_rate d row) p

-- what is counted of the sound of a packet with this outcome, which has these samples: all of them, or nothing
abbrev pub counted_as : Outcome → List ℤ → SoundCount
counted_as outcome samples = if is_heard outcome then count_of_samples samples else no_sound

-- what is counted of the sound of a datagram from an address, by its outcome and by what its octets are
abbrev pub sound_in : Desk → Address → Outcome → Reading → SoundCount
sound_in d from outcome (packet p) = counted_as outcome (samples_for d (source_from d p.header.ssrc from) p)
sound_in d from outcome too_long = no_sound
sound_in d from outcome neither = no_sound
sound_in d from outcome (no_packet fault) = no_sound
sound_in d from outcome (no_compound fault) = no_sound
sound_in d from outcome (compound packets) = no_sound
