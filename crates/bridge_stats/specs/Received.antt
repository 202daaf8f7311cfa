-- How a source is received, as its line tells it (own; jitter: RFC 3550 A.8).
use Rattle.std.specs.Prelude.{◌≡◌, ℕ, ◌*◌, ◌/◌, max, nat_eq, if◌then◌else◌, List, [], ◌∷◌, codes, Option, None, Some}
use Rattle.ingress.specs.Sources.{Origin, Sources}
use Rattle.ingress.specs.Ingresses.{Knows}
use Rattle.ingress.specs.Reception.{reception_at}
use Rattle.ingress.specs.inner.Holding.{IngressOf}
use Rattle.ingress.specs.declared.reception.Reception.{Reception}
use Rattle.bridge_stats.specs.declared.numbers.SourceNumbers.{SourceNumbers}
use Rattle.bridge_stats.specs.declared.sender.Sender.{Sender}
use Rattle.bridge_stats.specs.Counts.{so_many}
use Rattle.bridge_stats.specs.Text.{LinePart, words, number, no_word}

-- the address and SSRC of a sender, as the receive side has them
abbrev pub origin_of : Sender → Origin
origin_of sender = record { address = record { ip = sender.ip; port = sender.port }; ssrc = sender.ssrc }

-- The source of a sender is received so: whatever sources the receive side knows, this is how it receives that one.
abbrev pub IsReceived : IngressOf → Sender → Option Reception → Type 0
IsReceived ingress sender reception =
    (s : Sources) → Knows ingress s → reception ≡ reception_at (origin_of sender) s.known

-- the clock rate of video, in Hz
abbrev pub video_rate : ℕ
video_rate = 90000

-- the jitter in whole milliseconds
abbrev pub jitter_ms : Reception → ℕ
jitter_ms reception = reception.jitter * 1000 / max reception.rate 1

abbrev pub jitter_part : Option Reception → LinePart
jitter_part None = no_word
jitter_part (Some reception) = number (jitter_ms reception)

-- what the gate of video tells; sound has none
abbrev pub of_video : Reception → LinePart → LinePart
of_video reception part = if nat_eq reception.rate video_rate then part else no_word

-- how many whole frames the gate gave
abbrev pub frames_part : Option Reception → LinePart
frames_part None = no_word
frames_part (Some reception) = of_video reception (number reception.frames)

-- how often the gate gave up
abbrev pub given_up_part : Option Reception → LinePart
given_up_part None = no_word
given_up_part (Some reception) = of_video reception (number reception.gaps)

-- for how many milliseconds a packet has been missing, where there is a wait every 20 ms
abbrev pub waits_part : Option ℕ → LinePart
waits_part None = no_word
waits_part (Some waits) = number (so_many (waits * 20))

abbrev pub waiting_part : Option Reception → LinePart
waiting_part None = no_word
waiting_part (Some reception) = of_video reception (waits_part reception.waits)

-- what is counted of sound, where a sample has come
abbrev pub sound_part : (samples count : ℕ) → LinePart
sound_part samples count = if nat_eq samples 0 then no_word else number count

-- how a source is received, and what is counted of its sound, each number behind its word
abbrev pub reception_parts : Option Reception → SourceNumbers → List LinePart
reception_parts reception numbers =
    words (codes "jitter") ∷ jitter_part reception ∷ words (codes "frames") ∷ frames_part reception
    ∷ words (codes "given-up") ∷ given_up_part reception ∷ words (codes "waiting") ∷ waiting_part reception
    ∷ words (codes "samples") ∷ sound_part numbers.samples numbers.samples
    ∷ words (codes "energy") ∷ sound_part numbers.samples numbers.energy ∷ []
