use Rattle.std.proofs.Common.{◌≡◌, ◌∙◌, take, subst, [], ◌∷◌}
use Rattle.rtp_codec.specs.Packet.{most_csrcs}
use Rattle.media_items.specs.declared.format.Format.{Format}
use Rattle.media_items.specs.Formats.{encoded}
use Rattle.forward_rewrite.specs.Mixes.{GivesTick, sounding, sound_of, format_of}
use Rattle.mixer.specs.Hearing.{member_rate, contributors}
use Rattle.mixer.proofs.Sounds.{something_of, many}
use Rattle.mixer.proofs.preparing.prepare_encoded.Goals as goal

pub returns-clause-some : goal.returns-clause-some
returns-clause-some g c d voices m is format =
    let heard = c.args.heard in
    let samples = heard.samples.now in
    let csrcs = take most_csrcs (contributors voices d m) in
    let next = c.in_ok-prepared.prepared.next in
    let packets = c.in_ok-prepared.prepared.packet ∷ [] in
    let payload : c.deref.result.now ≡ encoded heard.format samples =
    c.deref.ensures.value ∙ c.in_ok-encode.ensures.payload in
    record {
      sound = sound_of (format_of m.codec (member_rate d m)) csrcs samples;
      hears = something_of d voices m samples heard.named is (many c.if-heard-eq0.false);
      gives =
          subst
          (λ (f : Format). GivesTick c.args.stream.now next (sounding (sound_of f csrcs samples) c.args.moment) packets)
          format
          (c.in_ok-prepared.ensures.gives csrcs samples is.who.count is.who.octets payload);
      ssrc = c.in_ok-prepared.ensures.ssrc;
    }
