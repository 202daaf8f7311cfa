-- The items that a datagram makes have no more and no fewer samples than they may.
use Rattle.std.proofs.Common.{◌≡◌, ℕ, true, false, ◌&&◌, nat_eq, List, [], ◌∷◌, ◌++◌, length, map, refl, ap}
use Rattle.std.specs.List.{list_all, flat_map}
use Rattle.rtp_codec.specs.declared.address.Address.{Address}
use Rattle.rtcp_codec.specs.declared.report.ReportBlock.{ReportBlock}
use Rattle.rtcp_codec.specs.Packet.{Packet, Sender, Receiver, Sdes, Bye, App, Nack, Pli, Other}
use Rattle.frame_gate.specs.Frame.{WholeFrame}
use Rattle.media_items.specs.Inputs.{Input, is_sized}
use Rattle.media_items.specs.Formats.{holds_whole}
use Rattle.media_items.specs.declared.format.Format.{Format}
use Rattle.media_items.proofs.FormatLemmas.{rate_known, sized_samples}
use Rattle.ingress.specs.Sources.{Origin}
use Rattle.ingress.specs.Media.{MediaPacket, frames_from, sound_of}
use Rattle.ingress.specs.Control.{asks, block_item}

pub sized_frames : (o : Origin) (moment epoch : ℕ) (frames : List WholeFrame)
    → list_all is_sized (frames_from o moment epoch frames) ≡ true
sized_frames o moment epoch [] = refl
sized_frames o moment epoch (f ∷ frames) = sized_frames o moment epoch frames

sized_blocks : (from : Address) (blocks : List ReportBlock) (rest : List Input) → list_all is_sized rest ≡ true
    → list_all is_sized (map (block_item from) blocks ++ rest) ≡ true
sized_blocks from [] rest h = h
sized_blocks from (b ∷ blocks) rest h = sized_blocks from blocks rest h

pub sized_asks : (from : Address) (packets : List Packet) → list_all is_sized (flat_map (asks from) packets) ≡ true
sized_asks from [] = refl
sized_asks from (Sender ssrc ntp ts packets octets blocks ∷ ps) = sized_blocks from blocks _ (sized_asks from ps)
sized_asks from (Receiver ssrc blocks ∷ ps) = sized_blocks from blocks _ (sized_asks from ps)
sized_asks from (Sdes chunks ∷ ps) = sized_asks from ps
sized_asks from (Bye ssrcs reason ∷ ps) = sized_asks from ps
sized_asks from (App subtype ssrc name content ∷ ps) = sized_asks from ps
sized_asks from (Nack sender media words ∷ ps) = sized_asks from ps
sized_asks from (Pli sender media ∷ ps) = sized_asks from ps
sized_asks from (Other pt count body ∷ ps) = sized_asks from ps

pub sized_sound : (format : Format) (c : MediaPacket) → holds_whole format (length c.packet.payload) ≡ true
    → list_all is_sized (sound_of format c) ≡ true
sized_sound format c whole =
    (elim (nat_eq (length c.packet.payload) 0)
    as (λ b. nat_eq (length c.packet.payload) 0 ≡ b → list_all is_sized (sound_of format c) ≡ true) [
      | true ↦ λ is. rw is refl
      | false ↦ λ is.
          rw is (rw (rate_known format) (ap (λ b. b && true) (sized_samples format c.packet.payload whole is)))
    ]) refl
