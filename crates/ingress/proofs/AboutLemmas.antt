-- What is answered to an address is about this address alone.
use Rattle.std.proofs.Common.{◌≡◌, ℕ, Bool, true, false, nat_eq, if◌then◌else◌, List, [], ◌∷◌, ◌++◌, length, map}
use Rattle.std.proofs.Common.{is_some, refl, sym, subst}
use Rattle.std.specs.List.{AllByRecursion, flat_map}
use Rattle.rtp_codec.specs.declared.address.Address.{Address}
use Rattle.rtcp_codec.specs.declared.report.ReportBlock.{ReportBlock}
use Rattle.rtcp_codec.specs.Packet.{Packet, Sender, Receiver, Sdes, Bye, App, Nack, Pli, Other}
use Rattle.source_valid.specs.declared.verdict.Verdict.{Verdict}
use Rattle.source_valid.specs.Histories.{accepted}
use Rattle.frame_gate.specs.Frame.{WholeFrame}
use Rattle.media_items.specs.Inputs.{Input}
use Rattle.media_items.specs.declared.format.Format.{Format}
use Rattle.ingress.specs.declared.outcome.Outcome.{Outcome}
use Rattle.ingress.specs.Sources.{Origin}
use Rattle.ingress.specs.Ingested.{Ingested, SpeaksFor, IsAbout, only, with_items}
use Rattle.ingress.specs.Media.{MediaPacket, frames_from, sound_of, sounds}
use Rattle.ingress.specs.Control.{asks, block_item}
use Rattle.ingress.proofs.Answered.{ingested}

pub about_only : (from : Address) (outcome : Outcome) (i : Ingested) → i ≡ only outcome → IsAbout from i
about_only from outcome i is = subst (IsAbout from) (sym is) (record { items = tt; up = tt })

-- ---- media

sound_speaks : (from : Address) (none : Bool) (item : Input) → SpeaksFor from item
    → AllByRecursion (SpeaksFor from) (if none then [] else item ∷ [])
sound_speaks from true item h = tt
sound_speaks from false item h = (h, tt)

when_heard : (from : Address) (heard : Bool) (items : List Input) → AllByRecursion (SpeaksFor from) items
    → AllByRecursion (SpeaksFor from) (if heard then items else [])
when_heard from true items h = h
when_heard from false items h = tt

pub about_sounds : (from : Address) (format : Format) (c : MediaPacket) (verdict : Verdict) (outcome : Outcome)
    (items : List Input) (i : Ingested)
    → i ≡ with_items outcome items → items ≡ sounds format c verdict → IsAbout from i
about_sounds from format c verdict outcome items i is same = subst (IsAbout from) (sym is) (record {
  items =
      subst (AllByRecursion (SpeaksFor from)) (sym same)
      (when_heard from (is_some (accepted verdict)) (sound_of format c)
      (sound_speaks from (nat_eq (length c.packet.payload) 0) _ tt));
  up = tt;
})

frames_speak : (from : Address) (o : Origin) (moment epoch : ℕ) (frames : List WholeFrame)
    → AllByRecursion (SpeaksFor from) (frames_from o moment epoch frames)
frames_speak from o moment epoch [] = tt
frames_speak from o moment epoch (f ∷ frames) = (tt, frames_speak from o moment epoch frames)

pub about_frames : (from : Address) (o : Origin) (moment epoch : ℕ) (frames : List WholeFrame) (outcome : Outcome)
    (up : List (Address × List ℕ)) (items : List Input)
    → items ≡ frames_from o moment epoch frames → AllByRecursion (λ d. d.0 ≡ from) up
    → IsAbout from (ingested outcome up items)
about_frames from o moment epoch frames outcome up items is sent = record {
  items = subst (AllByRecursion (SpeaksFor from)) (sym is) (frames_speak from o moment epoch frames);
  up = sent;
}

-- one datagram, to this address
pub one_to : (to : Address) (octets : List ℕ) (up : List (Address × List ℕ)) → up ≡ (to, octets) ∷ []
    → AllByRecursion (λ d. d.0 ≡ to) up
one_to to octets up is = subst (AllByRecursion (λ d. d.0 ≡ to)) (sym is) (refl, tt)

-- ---- compounds

blocks_speak : (from : Address) (blocks : List ReportBlock) (rest : List Input) → AllByRecursion (SpeaksFor from) rest
    → AllByRecursion (SpeaksFor from) (map (block_item from) blocks ++ rest)
blocks_speak from [] rest h = h
blocks_speak from (b ∷ blocks) rest h = (refl, blocks_speak from blocks rest h)

asks_speak : (from : Address) (packets : List Packet) → AllByRecursion (SpeaksFor from) (flat_map (asks from) packets)
asks_speak from [] = tt
asks_speak from (Sender ssrc ntp ts packets octets blocks ∷ ps) = blocks_speak from blocks _ (asks_speak from ps)
asks_speak from (Receiver ssrc blocks ∷ ps) = blocks_speak from blocks _ (asks_speak from ps)
asks_speak from (Sdes chunks ∷ ps) = asks_speak from ps
asks_speak from (Bye ssrcs reason ∷ ps) = asks_speak from ps
asks_speak from (App subtype ssrc name content ∷ ps) = asks_speak from ps
asks_speak from (Nack sender media words ∷ ps) = (refl, asks_speak from ps)
asks_speak from (Pli sender media ∷ ps) = (refl, asks_speak from ps)
asks_speak from (Other pt count body ∷ ps) = asks_speak from ps

pub about_asks : (from : Address) (outcome : Outcome) (items : List Input) (packets : List Packet) (i : Ingested)
    → i ≡ with_items outcome items → items ≡ flat_map (asks from) packets → IsAbout from i
about_asks from outcome items packets i is same = subst (IsAbout from) (sym is) (record {
  items = subst (AllByRecursion (SpeaksFor from)) (sym same) (asks_speak from packets);
  up = tt;
})
