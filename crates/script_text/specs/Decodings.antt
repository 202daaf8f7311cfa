-- What the datagrams of a script are, as its bridge decodes them (own).
use Rattle.std.specs.Prelude.{ℕ, List, [], ◌∷◌, codes, Result, Ok, Err}
use Rattle.rtcp_codec.specs.declared.nack.NackWord.{NackWord}
use Rattle.sender_feedback.specs.Upstream.{Asker}
use Rattle.ingress.specs.Readings.{Reading, IsReading}
use Rattle.ingress.specs.Taking.{Voice, IsVoice}
use Rattle.desk_text.specs.declared.fault.Fault.{Fault}
use Rattle.script_text.specs.declared.script.TheConstants.{BRIDGE_SSRC}
use Rattle.script_text.specs.Requests.{Request, Nothing, Begin, Desk, Item, Rx, Wait, Report, Show}
use Rattle.script_text.specs.ItemLines.{request_of}

-- A decoding: what the octets of each datagram are, and the NACK words for each list of lost numbers.
pub record Decoding : Type 0 where
  pub reading : List ℕ → Reading
  pub words : List ℕ → List NackWord

-- by which SSRC and name the bridge sends control, where the script doesn't say it
abbrev pub script_asker : Asker
script_asker = record { ssrc = BRIDGE_SSRC; cname = codes "bridge" }

-- what the bridge's control is made of: its SSRC and name, and the words of NACKs
abbrev pub voice_of : Asker → Decoding → Voice
voice_of who decoding = record { asker = who; words = decoding.words }

-- The octets of this datagram are read as what they are, and the words are those of the NACK's definition.
pub record IsDecoded (decoding : Decoding) (octets : List ℕ) : Type 0 where
  pub reads : IsReading octets (decoding.reading octets)
  pub names : (who : Asker) → IsVoice (voice_of who decoding)

-- what a line asks for is decoded: the octets of a datagram, and at a wait the words for lost packets; others need none
abbrev pub DecodesRequest : Decoding → Result Request (ℕ × Fault) → Type 0
DecodesRequest decoding (Ok Nothing) = Unit {0}
DecodesRequest decoding (Ok (Begin who renews)) = Unit {0}
DecodesRequest decoding (Ok (Desk op call)) = Unit {0}
DecodesRequest decoding (Ok (Item item)) = Unit {0}
DecodesRequest decoding (Ok (Rx moment from octets)) = IsDecoded decoding octets
DecodesRequest decoding (Ok (Wait moment from ssrc)) = (who : Asker) → IsVoice (voice_of who decoding)
DecodesRequest decoding (Ok (Report moment)) = Unit {0}
DecodesRequest decoding (Ok Show) = Unit {0}
DecodesRequest decoding (Err e) = Unit {0}

-- all datagrams and waits among lines are decoded
abbrev pub DecodesLines : Decoding → List (List ℕ) → Type 0
DecodesLines decoding [] = Unit {0}
DecodesLines decoding (line ∷ lines) = DecodesRequest decoding (request_of line) × DecodesLines decoding lines

-- it is so in each decoding of these lines, and there is such a decoding
pub record InEachDecoding (lines : List (List ℕ)) (IsSo : Decoding → Type 0) : Type 0 where
  pub each : (decoding : Decoding) → DecodesLines decoding lines → IsSo decoding
  pub some : (decoding : Decoding) × DecodesLines decoding lines × IsSo decoding
