use Rattle.std.proofs.Common.{◌≡◌, ◌∙◌, ap, sym, subst, None, Some, arith, to_z, of_z, w64}
use Rattle.std.proofs.lemmas.Int.{to_z-of_z}
use Rattle.source_valid.specs.Ranges.{IsExt}
use Rattle.source_valid.specs.Histories.{accepted}
use Rattle.frame_gate.specs.Packets.{numbered}
use Rattle.ingress.specs.declared.known.OriginKey.{OriginKey}
use Rattle.ingress.specs.Ingested.{Ingested}
use Rattle.media_items.specs.Rates.{video_rate}
use Rattle.ingress.specs.Media.{MediaPacket, video_course, gate_packet}
use Rattle.ingress.specs.Taking.{sourced}
use Rattle.ingress.specs.inner.MediaPackets.{incoming_of}
use Rattle.ingress.specs.inner.SourceEntries.{ValidatedOf}
use Rattle.ingress.specs.inner.Moves.{Advances}
use Rattle.ingress.proofs.Happens.{Gives, named_so, when_spent, when_verdict_only, when_at_gate, gates_so}
use Rattle.ingress.proofs.Happens.{video_at_gate}
use Rattle.ingress.proofs.Happens.{video_verdict_only, range_of}
use Rattle.ingress.proofs.Results.{with_fact, from_fact}
use Rattle.ingress.proofs.AboutLemmas.{about_only}
use Rattle.ingress.proofs.ReceivedLemmas.{of_dropped}
use Rattle.ingress.specs.declared.outcome.Outcome.TheVariants.{Spent}
use Rattle.ingress.proofs.ingress.Ingress.video.Goals as goal

pub returns-then-is_spent-clause-moves : goal.returns-then-is_spent-clause-moves
returns-then-is_spent-clause-moves g c = λ voice s right asker knows.
    let old = c.args.self.now in
    let incoming : MediaPacket = incoming_of c.args.incoming in
    let j : ValidatedOf = c.validated-validated.result in
    let validates =
    named_so old j _ _ _ _ c.key_of-key.ensures c.arrival_of.ensures c.validated-validated.ensures.validates in
    subst (λ (i : Ingested). Gives i old (sourced voice video_rate (video_course incoming) incoming s))
    (sym c.only.ensures.effect)
    (when_spent video_rate (video_course incoming) incoming old j validates s knows voice
    (sym c.is_spent.ensures ∙ c.if-is_spent.true))

pub returns-in-None-clause-moves : goal.returns-in-None-clause-moves
returns-in-None-clause-moves g c =
    let old = c.args.self.now in
    let incoming : MediaPacket = incoming_of c.args.incoming in
    let j : ValidatedOf = c.validated-validated.result in
    let validates =
    named_so old j _ _ _ _ c.key_of-key.ensures c.arrival_of.ensures c.validated-validated.ensures.validates in
    let none : accepted j.verdict ≡ None =
    ap (λ (x : ValidatedOf). accepted x.verdict) (sym c.validated.view_is) ∙ sym c.accepted.ensures ∙ c.in-None.is in
    with_fact c.verdict_only.result c.verdict_only.ensures.advances c.verdict_only.ensures.effect
    (λ ingest advances is voice s right asker knows.
    subst
    (λ (i : Ingested). Gives i c.verdict_only.new.self (sourced voice video_rate (video_course incoming) incoming s))
    (sym is)
    (when_verdict_only video_rate (video_course incoming) incoming old j validates s knows voice c.verdict_only.new.self
    (sym c.is_spent.ensures ∙ c.if-is_spent.false) (λ st. video_verdict_only incoming j.verdict st none)
    (subst (λ (key : OriginKey). Advances old c.verdict_only.new.self key j None) c.key_of-key.ensures advances)))

pub returns-in-Some-clause-moves : goal.returns-in-Some-clause-moves
returns-in-Some-clause-moves g c =
    let old = c.args.self.now in
    let incoming : MediaPacket = incoming_of c.args.incoming in
    let j : ValidatedOf = c.validated-validated.result in
    let ext = c.in-Some.ext in
    let validates =
    named_so old j _ _ _ _ c.key_of-key.ensures c.arrival_of.ensures c.validated-validated.ensures.validates in
    let some : accepted j.verdict ≡ Some ext =
    ap (λ (x : ValidatedOf). accepted x.verdict) (sym c.validated.view_is) ∙ sym c.accepted.ensures ∙ c.in-Some.is in
    let range : IsExt ext = range_of j.verdict ext c.validated-validated.ensures.validates.range some in
    let same : to_z w64 (of_z w64 ext) ≡ ext = grind (arith, to_z-of_z, range) in
    from_fact c.pass_gate.result c.pass_gate.ensures.gates (λ ingest gates voice s right asker knows.
    when_at_gate video_rate (video_course incoming) incoming old j validates s knows voice _ c.pass_gate.new.self
    (numbered ext (gate_packet incoming.packet)) right asker
    (sym c.is_spent.ensures ∙ c.if-is_spent.false) (λ st. video_at_gate incoming j.verdict ext st some)
    (gates_so _ _ _ _ _ _ _ _ _ _ c.key_of-key.ensures same gates))

pub returns-then-is_spent-clause-about : goal.returns-then-is_spent-clause-about
returns-then-is_spent-clause-about g c = about_only c.args.incoming.from.now _ _ c.only.ensures.effect

pub returns-in-None-clause-about : goal.returns-in-None-clause-about
returns-in-None-clause-about g c =
    from_fact c.verdict_only.result c.verdict_only.ensures.effect
    (λ ingest is. about_only c.args.incoming.from.now _ _ is)

pub returns-then-is_spent-clause-packet : goal.returns-then-is_spent-clause-packet
returns-then-is_spent-clause-packet g c =
    of_dropped c.args.self.now Spent _ c.only.ensures.effect c.only.ensures.begins (λ n e. cc)
