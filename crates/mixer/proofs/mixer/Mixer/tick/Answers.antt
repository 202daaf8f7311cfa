use Rattle.std.proofs.Common.{◌≡◌, ℕ, ◌≤◌, List, ◌++◌, length, map, filter, ap, sym, subst, ◌∙◌}
use Rattle.std.proofs.lemmas.List.{length-map}
use Rattle.topology.specs.Mixes.{in_room}
use Rattle.mixer.specs.Hearing.{tick, voice_of, voices_of}
use Rattle.mixer.specs.Mixers.{MixerOf, WasGiven, mix_at}
use Rattle.mixer.specs.inner.Rooms.{AreLong, of_room}
use Rattle.forward_rewrite.specs.Mixes.{MixOf}
use Rattle.mixer.specs.inner.Ready.{Passes, sent_of}
use Rattle.mixer.proofs.Listed.{as_many_voices}
use Rattle.mixer.proofs.TickSends.{Here, tick_sends, tick_leaves}
use Rattle.mixer.proofs.Givens.{has_more, few_ready}
use Rattle.mixer.proofs.mixer.Mixer.tick.Goals as goal

pub ready_all-requires : goal.ready_all-requires
ready_all-requires g c = record {
  few = λ room.
      let d = c.args.rows.now in
      let sources = c.in_ok-voices.ensures.sources ∙ c.deref.ensures.value ∙ c.in_ok-sources.ensures.sources in
      subst (λ n. n ≤ 64)
      (sym (ap (λ vs. length (of_room room vs)) c.deref-2.ensures.value
      ∙ as_many_voices room c.in_ok-voices.voices.items
      ∙ ap (λ ss. length (filter (in_room room) ss)) sources))
      (c.rooms_are_small.ensures d room c.audio_sources.ensures.good);
  long = subst (AreLong c.args.rows.now) (sym c.deref-2.ensures.value) c.in_ok-voices.ensures.long;
}

pub returns-clause-ticks : goal.returns-clause-ticks
returns-clause-ticks g c before w0 =
    let d = c.args.rows.now in
    let lane = c.args.place.now.lane in
    let lanes = c.args.place.now.lanes in
    let old : MixerOf = record { playouts = c.self.inside.playouts; streams = c.self.inside.streams.entries } in
    let w : WasGiven lane lanes old before =
    subst (λ (m : MixerOf). WasGiven lane lanes m before) (sym c.self.view_is) w0 in
    let voices = c.deref-2.result.now in
    let voices_are : voices ≡ voices_of before d =
    c.deref-2.ensures.value
    ∙ c.in_ok-voices.ensures.heard before w.playouts
    ∙ ap (map (voice_of d before)) (c.deref.ensures.value ∙ c.in_ok-sources.ensures.sources) in
    let streams = c.self.inside.streams.entries in
    let passed = c.pass_all.new.streams.entries in
    let ready = c.in_ok-ready.ready.items in
    let here : Here lane lanes before d c.args.moment voices streams passed = record {
      voices_are = voices_are;
      stand = w.streams;
      pass = λ ssrc.
          subst (λ (es : List (ℕ × MixOf)). Passes d c.args.moment ssrc (mix_at ssrc es) (mix_at ssrc passed))
          c.in_ok-reserve.ensures.entries (c.pass_all.ensures.streams ssrc);
      apart = λ pre m post split. c.mixes_are_apart.ensures d pre m post c.audio_sources.ensures.good split;
    } in (
      c.commit_all.ensures.out ∙ ap (λ xs. xs ++ map sent_of ready) c.in_ok-out.ensures.items
          ∙ tick_sends lane lanes before d c.args.moment voices streams passed here ready c.in_ok-ready.ensures.members
          c.in_ok-ready.ensures.ready,
      record {
        playouts =
            has_more old.playouts c.take_all.new.self (tick d c.args.moment) before c.take_all.ensures w.playouts;
        streams =
            tick_leaves lane lanes before d c.args.moment voices streams passed c.commit_all.new.streams.entries here
            ready
            c.in_ok-ready.ensures.members c.in_ok-ready.ensures.ready c.commit_all.ensures.streams;
      },
    )

pub returns-clause-few : goal.returns-clause-few
returns-clause-few g c =
    let d = c.args.rows.now in
    let few =
    few_ready d c.deref-2.result.now c.args.place.now.lane c.args.place.now.lanes c.in_ok-ready.ready.items
    c.in_ok-ready.ensures.members in
    let ready = c.in_ok-ready.ready.items in
    subst (λ n. n ≤ length d.members)
    (sym (ap length (c.commit_all.ensures.out ∙ ap (λ xs. xs ++ map sent_of ready) c.in_ok-out.ensures.items)
    ∙ length-map ready sent_of))
    few
