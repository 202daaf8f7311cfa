-- One decoding has every datagram, and so every script.
use Rattle.std.proofs.Common.{◌≡◌, ◌⊎◌, ◌^◌, ℕ, suc, Bool, true, false, not, ◌||◌, ◌==◌, nat_lt, length, slice_index}
use Rattle.std.proofs.Common.{if◌then◌else◌, List, [], ◌∷◌, Option, Some, None, Result, Ok, Err, refl, inl, inr, arith}
use Rattle.std.specs.Prelude.{IfSome}
use Rattle.std.specs.List.{list_all}
use Rattle.std.proofs.lemmas.Bool.{cases_lt}
use Rattle.hex.specs.Hex.{IsBytes}
use Rattle.rtp_codec.specs.Octets.{AreOctets}
use Rattle.rtp_codec.specs.declared.address.Address.{Address}
use Rattle.sender_feedback.specs.Upstream.{Asker}
use Rattle.ingress.specs.Readings.{Reading, too_long, IsReading}
use Rattle.ingress.specs.Taking.{Voice, IsVoice}
use Rattle.desk_text.specs.declared.fault.Fault.{Fault}
use Rattle.desk_text.specs.Lines.{limit_of, is_printable, lines_of}
use Rattle.desk_text.specs.Words.{words_of}
use Rattle.script_text.specs.Requests.{Request, Nothing, Begin, Desk, Item, Rx, Wait, Report, Show, line_request}
use Rattle.script_text.specs.ItemLines.{later_request, request_of}
use Rattle.script_text.specs.Decodings.{Decoding, script_asker, IsDecoded, DecodesRequest, DecodesLines, InEachDecoding}
use Rattle.script_text.proofs.FirstLineLemmas.{read_by}
use Rattle.script_text.proofs.RxLaws.{rx_back}
use Rattle.script_text.proofs.ItemLemmas.{not_item}

-- ---- all datagrams

abbrev HaveVoices : Type 0
HaveVoices = (asker : Asker) → (voice : Voice) × IsVoice voice × (voice.asker ≡ asker)

abbrev HaveReadings : Type 0
HaveReadings = (octets : List ℕ) → AreOctets octets → (r : Reading) × IsReading octets r

abbrev OctetsOrNot : List ℕ → Type 0
OctetsOrNot numbers = AreOctets numbers ⊎ (AreOctets numbers → ⊥)

octets_or_not : (numbers : List ℕ) → OctetsOrNot numbers
octets_or_not [] = inl tt
octets_or_not (n ∷ ns) =
    elim (cases_lt n (2 ^ 8)) [
      | inr large ↦ inr (λ h. omega (arith, h.0, large))
      | inl small ↦ elim (octets_or_not ns) [ inl all ↦ inl (small, all) | inr other ↦ inr (λ h. other h.1) ]
    ]

-- what octets are read as; other numbers as anything
read : HaveReadings → (numbers : List ℕ) → OctetsOrNot numbers → Reading
read readings numbers (inl small) = (readings numbers small).0
read readings numbers (inr other) = too_long

reads : (readings : HaveReadings) (octets : List ℕ) (d : OctetsOrNot octets) → AreOctets octets
    → IsReading octets (read readings octets d)
unfolding read
reads readings octets (inl small) h = (readings octets small).1
reads readings octets (inr other) h = absurd (other h)

-- a decoding of every datagram
abbrev HearsEach : Decoding → Type 0
HearsEach decoding = (octets : List ℕ) → AreOctets octets → IsDecoded decoding octets

pub datagrams_heard : HaveVoices → HaveReadings → (decoding : Decoding) × HearsEach decoding
datagrams_heard voices readings =
    let voice = voices script_asker in (
      record { reading = λ numbers. read readings numbers (octets_or_not numbers); words = voice.0.words },
      λ octets small. record { reads = reads readings octets (octets_or_not octets) small; names = λ who. voice.1 },
    )

-- ---- all lines

words_read : (long bad empty : Bool) (read : Result Request (ℕ × Fault)) (moment : ℕ) (from : Address) (octets : List ℕ)
    → read_by long bad empty read ≡ Ok (Rx moment from octets) → read ≡ Ok (Rx moment from octets)
words_read true bad empty read moment from octets e = absurd cc
words_read false true empty read moment from octets e = absurd cc
words_read false false true read moment from octets e = absurd cc
words_read false false false read moment from octets e = e

by_recursion : (octets : List ℕ) → IsBytes octets → AreOctets octets
by_recursion [] h = tt
by_recursion (x ∷ xs) h = (h 0, by_recursion xs (λ i. h (suc i)))

-- a datagram of a line is of octets
line_octets : (line : List ℕ) (moment : ℕ) (from : Address) (octets : List ℕ)
    → request_of line ≡ Ok (Rx moment from octets) → AreOctets octets
unfolding line_request
line_octets line moment from octets e =
    let asked =
    words_read (nat_lt (limit_of line) (length line)) (not (list_all is_printable line))
    (length line == 0 || slice_index line 0 == 35) (later_request (words_of line)) moment from octets e in
    let read = not_item (words_of line) (Rx moment from octets) (λ h. h) asked in
    by_recursion octets (rx_back line moment from octets read).3.bytes

line_heard : (decoding : Decoding) → HearsEach decoding → (line : List ℕ) (asked : Result Request (ℕ × Fault))
    → request_of line ≡ asked → DecodesRequest decoding asked
line_heard decoding each line (Ok Nothing) e = tt
line_heard decoding each line (Ok (Begin who renews)) e = tt
line_heard decoding each line (Ok (Desk op call)) e = tt
line_heard decoding each line (Ok (Item item)) e = tt
line_heard decoding each line (Ok (Rx moment from octets)) e = each octets (line_octets line moment from octets e)
line_heard decoding each line (Ok (Wait moment from ssrc)) e = (each [] tt).names
line_heard decoding each line (Ok (Report moment)) e = tt
line_heard decoding each line (Ok Show) e = tt
line_heard decoding each line (Err fault) e = tt

lines_heard : (decoding : Decoding) → HearsEach decoding → (lines : List (List ℕ)) → DecodesLines decoding lines
lines_heard decoding each [] = tt
lines_heard decoding each (line ∷ lines) =
    (line_heard decoding each line (request_of line) refl, lines_heard decoding each lines)

-- a decoding of every script
abbrev pub HaveWire : Type 0
HaveWire = (decoding : Decoding) × ((lines : List (List ℕ)) → DecodesLines decoding lines)

pub scripts_heard : (decoding : Decoding) × HearsEach decoding → HaveWire
scripts_heard one = (one.0, lines_heard one.0 one.1)

-- ---- what is so in each decoding is so in that one

pub on_wires : HaveWire → (lines : List (List ℕ)) (IsSo : Decoding → Type 0)
    → ((decoding : Decoding) → DecodesLines decoding lines → IsSo decoding) → InEachDecoding lines IsSo
on_wires one lines IsSo each = record { each = each; some = (one.0, one.1 lines, each one.0 (one.1 lines)) }

pub input_on_wires : HaveWire → (left : Option (List ℕ)) (IsSo : List ℕ → Decoding → Type 0)
    → IfSome left (λ input. (decoding : Decoding) → DecodesLines decoding (lines_of input) → IsSo input decoding)
    → IfSome left (λ input. InEachDecoding (lines_of input) (IsSo input))
input_on_wires one None IsSo each = tt
input_on_wires one (Some input) IsSo each = on_wires one (lines_of input) (IsSo input) each
