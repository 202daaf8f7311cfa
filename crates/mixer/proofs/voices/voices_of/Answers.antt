use Rattle.std.proofs.Common.{◌≡◌, length, map, take, ap, sym, subst, ◌∙◌, ◌++◌, ◌∷◌, [], arith}
use Rattle.std.proofs.lemmas.List.{map_more, map_push, take_more, take_all}
use Rattle.media_items.specs.Formats.{tick_at}
use Rattle.mixer.proofs.Listed.{in_its_room, source_of}
use Rattle.mixer.proofs.StreamSteps.{all-push}
use Rattle.topology.specs.Looking.{room_rate}
use Rattle.mixer.specs.Hearing.{Voice, voice_of}
use Rattle.mixer.specs.inner.Rooms.{AreLong}
use Rattle.mixer.proofs.voices.voices_of.Goals as goal

pub loop-source-preserved : goal.loop-source-preserved
loop-source-preserved g c =
    let d = c.args.rows.now in
    let n = c.loop-source.source-index in
    let voice = c.in_ok-voice.voice in
    let rate = c.rate_in-rate.ensures.rate in
    let source = c.in_ok-voice.ensures.source in
    record {
      heard = λ given has.
          c.in_ok-push.ensures.items
          ∙ ap (λ vs. vs ++ voice ∷ []) (c.loop-source.invariant.heard given has)
          ∙ ap (λ v. map (voice_of d given) (take n c.args.sources.now) ++ v ∷ [])
          (in_its_room d given _ _ _ (c.in_ok-voice.ensures.heard given has) rate)
          ∙ sym (map_more (voice_of d given) c.args.sources.now n _ (omega (arith, c.loop-source-test.true)));
      sources =
          ap (map source_of) c.in_ok-push.ensures.items ∙ map_push source_of c.loop-source.voices.items voice
          ∙ ap (λ ss. ss ++ voice.source ∷ []) c.loop-source.invariant.sources
          ∙ ap (λ s. take n c.args.sources.now ++ s ∷ []) source
          ∙ sym (take_more c.args.sources.now n _ (omega (arith, c.loop-source-test.true)));
      long = subst (AreLong d) (sym c.in_ok-push.ensures.items)
          (all-push (λ (v : Voice). length v.samples ≡ tick_at (room_rate d v.source.room)) c.loop-source.voices.items
          voice c.loop-source.invariant.long
          (c.in_ok-voice.ensures.long ∙ ap tick_at rate ∙ ap (λ s. tick_at (room_rate d s.room)) (sym source)));
      last = c.rate_in-rate.ensures.last;
    }

pub returns-clause-heard : goal.returns-clause-heard
returns-clause-heard g c given has =
    c.loop-source.invariant.heard given has
    ∙ ap (map (voice_of c.args.rows.now given))
    (take_all c.loop-source.source-index c.args.sources.now c.loop-source-test.false)

pub returns-clause-sources : goal.returns-clause-sources
returns-clause-sources g c =
    c.loop-source.invariant.sources ∙ take_all c.loop-source.source-index c.args.sources.now c.loop-source-test.false
