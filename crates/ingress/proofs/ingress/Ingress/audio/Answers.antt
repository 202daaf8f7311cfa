use Rattle.std.proofs.Common.{◌∙◌, ap, sym, subst, None, is_some, if◌then◌else◌}
use Rattle.source_valid.specs.Histories.{accepted}
use Rattle.media_items.specs.Formats.{rate_of, samples_of_packet}
use Rattle.ingress.specs.declared.known.OriginKey.{OriginKey}
use Rattle.ingress.specs.Energy.{count_of_samples, no_sound, counted_as}
use Rattle.ingress.specs.Ingested.{Ingested}
use Rattle.ingress.specs.Media.{MediaPacket, audio_course, arrival_of, sounds, verdict_with}
use Rattle.ingress.specs.Taking.{sourced}
use Rattle.ingress.specs.inner.MediaPackets.{incoming_of}
use Rattle.ingress.specs.inner.SourceEntries.{ValidatedOf}
use Rattle.ingress.specs.inner.Moves.{Advances}
use Rattle.ingress.proofs.Happens.{Gives, named_so, when_spent, when_verdict_with}
use Rattle.ingress.proofs.Results.{with_fact, with_facts, from_fact}
use Rattle.ingress.proofs.AboutLemmas.{about_only, about_sounds}
use Rattle.ingress.proofs.ReceivedLemmas.{of_dropped, heard_told}
use Rattle.ingress.specs.declared.outcome.Outcome.TheVariants.{Spent}
use Rattle.ingress.proofs.ingress.Ingress.audio.Goals as goal

pub returns-then-is_spent-clause-moves : goal.returns-then-is_spent-clause-moves
returns-then-is_spent-clause-moves g c = λ voice s right asker knows.
    let old = c.args.self.now in
    let format = c.args.format in
    let incoming : MediaPacket = incoming_of c.args.incoming in
    let j : ValidatedOf = c.validated-validated.result in
    let validates =
    named_so old j _ _ _ _ c.key_of-key.ensures (c.arrival_of.ensures ∙ ap (λ r. arrival_of r incoming) c.rate.ensures)
    c.validated-validated.ensures.validates in
    subst (λ (i : Ingested). Gives i old (sourced voice (rate_of format) (audio_course format incoming) incoming s))
    (sym c.only.ensures.effect)
    (when_spent (rate_of format) (audio_course format incoming) incoming old j validates s knows voice
    (sym c.is_spent.ensures ∙ c.if-is_spent.true))

pub returns-clause-moves : goal.returns-clause-moves
returns-clause-moves g c =
    let old = c.args.self.now in
    let format = c.args.format in
    let incoming : MediaPacket = incoming_of c.args.incoming in
    let j : ValidatedOf = c.validated-validated.result in
    let validates =
    named_so old j _ _ _ _ c.key_of-key.ensures (c.arrival_of.ensures ∙ ap (λ r. arrival_of r incoming) c.rate.ensures)
    c.validated-validated.ensures.validates in
    let same =
    c.in_ok-heard.ensures.items ∙ ap (λ (x : ValidatedOf). sounds format incoming x.verdict) c.validated.view_is in
    with_fact c.verdict_with.result c.verdict_with.ensures.advances c.verdict_with.ensures.effect
    (λ ingest advances is voice s right asker knows.
    subst
    (λ (i : Ingested).
    Gives i c.verdict_with.new.self (sourced voice (rate_of format) (audio_course format incoming) incoming s))
    (sym is)
    (when_verdict_with (rate_of format) (audio_course format incoming) incoming old j validates s knows voice
    c.verdict_with.new.self _
    (sym c.is_spent.ensures ∙ c.if-is_spent.false) (λ st. ap (λ items. verdict_with j.verdict items st) (sym same))
    (subst (λ (key : OriginKey). Advances old c.verdict_with.new.self key j None) c.key_of-key.ensures advances)))

pub returns-then-is_spent-clause-about : goal.returns-then-is_spent-clause-about
returns-then-is_spent-clause-about g c = about_only c.args.incoming.from.now _ _ c.only.ensures.effect

pub returns-clause-about : goal.returns-clause-about
returns-clause-about g c =
    from_fact c.verdict_with.result c.verdict_with.ensures.effect (λ ingest is.
    about_sounds c.args.incoming.from.now c.args.format (incoming_of c.args.incoming) _ _ _ _ is
    c.in_ok-heard.ensures.items)

pub returns-then-is_spent-clause-packet : goal.returns-then-is_spent-clause-packet
returns-then-is_spent-clause-packet g c =
    of_dropped c.args.self.now Spent _ c.only.ensures.effect c.only.ensures.begins (λ n e. cc)

pub returns-then-is_spent-clause-sound : goal.returns-then-is_spent-clause-sound
returns-then-is_spent-clause-sound g c =
    let samples = samples_of_packet c.args.format (incoming_of c.args.incoming).packet.payload in
    c.only.ensures.sound ∙ sym (ap (λ (i : Ingested). counted_as i.outcome samples) c.only.ensures.effect)

pub returns-clause-sound : goal.returns-clause-sound
returns-clause-sound g c =
    let samples = samples_of_packet c.args.format (incoming_of c.args.incoming).packet.payload in
    let j : ValidatedOf = c.validated-validated.result in
    with_facts c.verdict_with.result c.verdict_with.ensures.sound c.verdict_with.ensures.effect
    (λ effect sound is.
    sound
    ∙ (c.in_ok-heard.ensures.sound
    ∙ (ap (λ (x : ValidatedOf). if is_some (accepted x.verdict) then count_of_samples samples else no_sound)
    c.validated.view_is
    ∙ (ap (λ b. if b then count_of_samples samples else no_sound) (heard_told j.verdict)
    ∙ sym (ap (λ (i : Ingested). counted_as i.outcome samples) is)))))
