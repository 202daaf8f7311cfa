use Rattle.std.proofs.Common.{◌≡◌, Some, None, ap, sym, ◌∙◌}
use Rattle.mixer.specs.Mixes.{turns, stream_of}
use Rattle.mixer.specs.Mixers.{MixerOf, mix_at}
use Rattle.mixer.proofs.Told.{told_nothing, told_begun}
use Rattle.mixer.proofs.mixer.Mixer.counts.Goals as goal

pub returns-in_err-get : goal.returns-in_err-get
returns-in_err-get g c lane lanes given mine w =
    let ssrc = c.args.out_audio in
    let none : mix_at ssrc c.self.inside.streams.entries ≡ None = sym (c.in_err-get.ensures.value) in
    let stands : stream_of ssrc (turns ssrc given) ≡ None =
    sym (w.streams ssrc mine) ∙ ap (λ (m : MixerOf). mix_at ssrc m.streams) (sym c.self.view_is) ∙ none in
    c.from_residual.ensures ∙ sym (told_nothing ssrc (turns ssrc given) stands)

pub returns : goal.returns
returns g c lane lanes given mine w =
    let ssrc = c.args.out_audio in
    let stream = c.in_ok-get.field-0.now in
    let there : mix_at ssrc c.self.inside.streams.entries ≡ Some stream = sym (c.in_ok-get.ensures.value) in
    let stands : stream_of ssrc (turns ssrc given) ≡ Some stream =
    sym (w.streams ssrc mine) ∙ ap (λ (m : MixerOf). mix_at ssrc m.streams) (sym c.self.view_is) ∙ there in
    told_begun ssrc (turns ssrc given) stream c.counts.result stands c.counts.ensures
