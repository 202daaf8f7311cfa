-- What is printed for what goes out (own): lines, as lists of words.
use Rattle.std.specs.Prelude.{ℕ, ℤ, List, [], ◌∷◌, ◌++◌, codes, Option, None, Some}
use Rattle.rtp_codec.specs.declared.address.Address.{Address as Endpoint}
use Rattle.receiver_feedback.specs.declared.noting.LossNote.{LossNote}
use Rattle.bridge_core.specs.Sent.{MediaPacket, ControlPacket, Notice, Sent}
use Rattle.bridge_core.specs.Sent.Sent.{media, control, note}
use Rattle.desk_text.specs.declared.value.Value.TheVariants.{U16, U32, U64, Address}
use Rattle.desk_text.specs.Text.{Word, fixed, value, signed, hex, line_text}

-- the words that stand first of what goes out: the version, the number of the item in its lane, and an address
abbrev pub head_words : (version item : ℕ) → Endpoint → List Word
head_words version item address = value (U64 version) ∷ value (U64 item) ∷ value (Address address) ∷ []

-- the words of a packet: the version by which it was sent first, the number of its item, where it goes, its stream's
-- SSRC, its number there, and its octets
abbrev pub packet_words : MediaPacket → List Word
packet_words p = head_words p.version p.item p.to ++ value (U32 p.ssrc) ∷ value (U16 p.number) ∷ hex p.bytes ∷ []

-- the words of a packet that goes out with these: for the first time, or again by a version
abbrev pub media_words : Option ℕ → List Word → List Word
media_words None words = fixed (codes "tx") ∷ words
media_words (Some version) words = fixed (codes "re") ∷ value (U64 version) ∷ words

-- the words of an RTCP compound: the version, the number of its item, where it goes, and its octets
abbrev pub control_words : ControlPacket → List Word
control_words p = fixed (codes "ct") ∷ head_words p.version p.item p.to ++ hex p.bytes ∷ []

-- the words of a source's packet: its SSRC and its extended number, or marks that there is none
abbrev pub source_words : Option (ℕ × ℤ) → List Word
source_words None = fixed (codes "-") ∷ fixed (codes "-") ∷ []
source_words (Some source) = value (U32 source.0) ∷ signed source.1 ∷ []

-- the words of a receiver's losses: the stream's SSRC, the share and the number of lost packets, and the source's
-- packet that was the highest
abbrev pub loss_words : LossNote → List Word
loss_words n = value (U32 n.out_ssrc) ∷ value (U16 n.fraction) ∷ signed n.lost ∷ source_words n.source

-- the words of what a receiver tells: the version, the number of its item, from where it came, and the losses
abbrev pub notice_words : Notice → List Word
notice_words n = fixed (codes "note") ∷ head_words n.version n.item n.from ++ loss_words n.note

-- the words of what goes out
abbrev pub sent_words : Sent → List Word
sent_words (media p) = media_words p.resent_by (packet_words p)
sent_words (control p) = control_words p
sent_words (note n) = notice_words n

-- the line of what goes out
abbrev pub sent_text : Sent → List ℕ
sent_text sent = line_text (sent_words sent)
