-- The lines of a trace (own).
use Rattle.std.specs.Prelude.{ℕ, ◌==◌, if◌then◌else◌, List, [], ◌∷◌, ◌++◌, length, codes, decimal}
use Rattle.std.specs.List.{flat_map}
use Rattle.rtp_codec.specs.declared.address.Address.{Address}
use Rattle.rtp_codec.specs.Address.{address_text}
use Rattle.desk_text.specs.HistoryText.{called_line}
use Rattle.call_history.specs.AcceptedCall.{AcceptedOf}
use Rattle.script_text.specs.Requests.{rx_line}
use Rattle.trace_text.specs.declared.speaker.Speaker.{Speaker}
use Rattle.trace_text.specs.declared.speaker.Speaker.TheVariants.{Front, Lane}

-- what stands before each line of a speaker
abbrev pub mark_of : Speaker → List ℕ
mark_of Front = []
mark_of (Lane n) = codes "lane " ++ decimal n ++ codes " "

-- a line of a speaker
abbrev pub marked : Speaker → List ℕ → List ℕ
marked speaker line = mark_of speaker ++ line

-- how the first line of a speaker ends: that of the front says that jitter buffers begin anew, since no line of its
-- script hands the lane an item that does
abbrev pub first_end : Speaker → List ℕ
first_end Front = codes " renew\n"
first_end (Lane n) = codes "\n"

-- the first line of a speaker: who the bridge is
abbrev pub first_line : Speaker → (ssrc : ℕ) → (name : List ℕ) → List ℕ
first_line speaker ssrc name = codes "bridge " ++ decimal ssrc ++ codes " " ++ name ++ first_end speaker

-- the lines of accepted calls
abbrev pub calls_text : Speaker → List AcceptedOf → List ℕ
calls_text speaker calls = flat_map (λ call. marked speaker (called_line call)) calls

-- the comment on a datagram without octets, which no line of a script has
abbrev pub empty_line : (moment : ℕ) → Address → List ℕ
empty_line moment from = codes "# rx " ++ decimal moment ++ codes " " ++ address_text from ++ codes "\n"

-- the line of a datagram that was taken in
abbrev pub datagram_line : (moment : ℕ) → Address → List ℕ → List ℕ
datagram_line moment from octets =
    if length octets == 0 then empty_line moment from else rx_line moment from octets ++ 10 ∷ []

-- the comment that the bridge asked a sender for a picture, of its own accord
abbrev pub picture_line : Address → ℕ → List ℕ
picture_line to ssrc = codes "# picture " ++ address_text to ++ codes " " ++ decimal ssrc ++ codes "\n"
