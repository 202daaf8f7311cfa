use Rattle.std.proofs.Common.{List, Option, IfSome, ap, subst, ◌∙◌, refl, [], ◌∷◌}
use Rattle.forward_rewrite.specs.Mixes.{MixOf, PreparedMixOf, GivesTick, sounding}
use Rattle.mixer.specs.Hearing.{Voice}
use Rattle.mixer.specs.inner.Rooms.{IsRoom}
use Rattle.mixer.specs.inner.Ready.{IsPrepared}
use Rattle.mixer.proofs.streams.ready_for.Goals as goal

pub returns-in-Some-clause-some : goal.returns-in-Some-clause-some
returns-in-Some-clause-some g c = (
  refl,
  λ voices is.
      let d = c.args.tick.now.rows.now in
      let m = c.args.member.now in
      let one = c.in-Some.prepared in
      let p : IsPrepared d voices c.args.tick.now.moment m c.stream_for-stream.result one =
      (subst
      (λ (o : Option PreparedMixOf).
      IfSome o (λ p.
      (vs : List Voice) → IsRoom d vs c.args.room.now
      → IsPrepared d vs c.args.tick.now.moment m c.stream_for-stream.result p))
      c.in-Some.is c.in_ok-prepared.ensures.some)
      voices is in
      record {
        sound = p.sound;
        hears = p.hears;
        gives =
            subst (λ (s : MixOf). GivesTick s one.next (sounding p.sound c.args.tick.now.moment) (one.packet ∷ []))
            c.stream_for-stream.ensures p.gives;
        ssrc = p.ssrc ∙ ap (λ (s : MixOf). s.ssrc) c.stream_for-stream.ensures;
      },
)
