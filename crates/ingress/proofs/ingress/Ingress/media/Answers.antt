use Rattle.std.proofs.Common.{◌≡◌, ◌∙◌, ap, sym, subst, length}
use Rattle.std.specs.Prelude.{unwrap_or}
use Rattle.ingress.specs.inner.Effects.{effect_of}
use Rattle.ingress.specs.Media.{MediaPacket, audio_format}
use Rattle.ingress.specs.Ingested.{Ingested}
use Rattle.ingress.specs.Energy.{counted_as, samples_in, samples_by, samples_for}
use Rattle.ingress.specs.Taking.{of_row, of_media, of_format, room_rate}
use Rattle.ingress.specs.Ingresses.{Knows}
use Rattle.ingress.specs.inner.MediaPackets.{incoming_of}
use Rattle.ingress.proofs.Results.{from_fact}
use Rattle.ingress.proofs.AboutLemmas.{about_only}
use Rattle.ingress.proofs.ReceivedLemmas.{of_dropped, no_samples}
use Rattle.ingress.proofs.ingress.Ingress.media.Goals as goal

pub returns-in-Some-audio_format-clause-moves : goal.returns-in-Some-audio_format-clause-moves
returns-in-Some-audio_format-clause-moves g c =
    let incoming : MediaPacket = incoming_of c.args.incoming in
    let d = c.args.rows.now in
    let row = c.in-Some.source in
    let there = c.in-Some.is in
    let heard = sym c.audio_format.ensures.format ∙ c.in-Some-audio_format.is in
    from_fact c.audio.result c.audio.ensures.moves (λ effect moves voice s right asker knows.
    let same =
    ap (λ r. of_row voice d r incoming s) there ∙ ap (λ m. of_media voice m (room_rate d row) incoming s) c.in-Audio.is
    ∙ ap (λ r. of_format voice (audio_format r incoming.packet.header.pt (length incoming.packet.payload)) incoming s)
    (sym (c.unwrap_or-rate.ensures ∙ ap (λ o. unwrap_or o 8000) c.rate_of.ensures))
    ∙ ap (λ f. of_format voice f incoming s) heard in
    subst (λ x. (effect_of effect ≡ x.0) × Knows c.audio.new.self x.1) (sym same) (moves voice s right asker knows))

pub returns-in-None-clause-about : goal.returns-in-None-clause-about
returns-in-None-clause-about g c = about_only c.args.incoming.from.now _ _ c.only-in-None.ensures.effect

pub returns-in-None-clause-packet : goal.returns-in-None-clause-packet
returns-in-None-clause-packet g c =
    of_dropped c.args.self.now _ _ c.only-in-None.ensures.effect c.only-in-None.ensures.begins (λ n e. cc)

pub returns-in-None-clause-sound : goal.returns-in-None-clause-sound
returns-in-None-clause-sound g c =
    let p = (incoming_of c.args.incoming).packet in
    c.only-in-None.ensures.sound
    ∙ sym (ap (λ (i : Ingested). counted_as i.outcome (samples_for c.args.rows.now c.args.source p))
    c.only-in-None.ensures.effect)

pub returns-in-Some-audio_format-clause-sound : goal.returns-in-Some-audio_format-clause-sound
returns-in-Some-audio_format-clause-sound g c =
    let p = (incoming_of c.args.incoming).packet in
    let d = c.args.rows.now in
    let row = c.in-Some.source in
    let heard = sym c.audio_format.ensures.format ∙ c.in-Some-audio_format.is in
    from_fact c.audio.result c.audio.ensures.sound (λ effect is.
    let same =
    ap (λ r. samples_for d r p) c.in-Some.is ∙ ap (λ m. samples_by m (room_rate d row) p) c.in-Audio.is
    ∙ ap (λ r. samples_in (audio_format r p.header.pt (length p.payload)) p.payload)
    (sym (c.unwrap_or-rate.ensures ∙ ap (λ o. unwrap_or o 8000) c.rate_of.ensures))
    ∙ ap (λ f. samples_in f p.payload) heard in
    is ∙ ap (counted_as effect.outcome) (sym same))

pub returns-in-Video-clause-sound : goal.returns-in-Video-clause-sound
returns-in-Video-clause-sound g c =
    let p = (incoming_of c.args.incoming).packet in
    let d = c.args.rows.now in
    let row = c.in-Some.source in
    from_fact c.video.result c.video.ensures.sound (λ effect is.
    let same = ap (λ r. samples_for d r p) c.in-Some.is ∙ ap (λ m. samples_by m (room_rate d row) p) c.in-Video.is in
    is ∙ (no_samples effect.outcome ∙ ap (counted_as effect.outcome) (sym same)))
