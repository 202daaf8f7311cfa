-- What holds of all that a mix stream sends (RFC 3550 section 5.1: the number goes up by one for each packet).
use Rattle.std.specs.Prelude.{◌≡◌, ℕ, ◌+◌, ◌%◌, ◌^◌, Bool, nat_eq, List, [], ◌∷◌, map, filter, Option, None, Some}
use Rattle.desk_rows.specs.declared.row.Member.{Member as MemberRow}
use Rattle.forward_rewrite.specs.Sending.{Numbered}
use Rattle.forward_rewrite.specs.Mixes.{Sound, mix_packet}
use Rattle.mixer.specs.Mixes.{Hears, MixSent, to_member}

-- Each of the packets has the number after that of the one before it, the first of them the one after this.
abbrev pub GoOn : ℕ → List Numbered → Type 0
GoOn number [] = Unit {0}
GoOn number (p ∷ ps) = (p.number ≡ (number + 1) % 2 ^ 16) × GoOn p.number ps

-- The packets are numbered one after the other.
abbrev pub AreInARow : List Numbered → Type 0
AreInARow [] = Unit {0}
AreInARow (p ∷ ps) = GoOn p.number ps

-- This is one packet of a sound, under some number and timestamp, with or without the marker.
pub record IsOne (ssrc : ℕ) (sound : Sound) (packets : List Numbered) : Type 0 where
  pub number : ℕ
  pub ts : ℕ
  pub marker : Bool
  pub packet : packets ≡ mix_packet ssrc number ts marker sound ∷ []

-- What is heard goes out as one packet, and where nothing is heard there is none.
abbrev pub Carries : ℕ → Option Hears → List Numbered → Type 0
Carries ssrc None packets = packets ≡ []
Carries ssrc (Some h) packets = IsOne ssrc h.sound packets

-- the packets on one stream
abbrev pub on_stream : ℕ → List MixSent → List MixSent
on_stream ssrc sent = filter (λ p. nat_eq p.ssrc ssrc) sent

-- packets on their way to a member, if it is there
abbrev pub to_its_member : Option MemberRow → List Numbered → List MixSent
to_its_member None packets = []
to_its_member (Some m) packets = map (to_member m) packets
