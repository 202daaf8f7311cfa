use Rattle.std.proofs.Common.{◌≡◌, ◌+◌, [], ◌∷◌, length, true, ap, arith, sym, ◌∙◌}
use Rattle.media_items.specs.declared.format.Format.TheVariants.{Pcmu}
use Rattle.forward_rewrite.specs.Mixes.{mix_list, mix_packet, silent, sound_of, sounding}
use Rattle.worked_media.proofs.Behind.{three-ticks, two-behind}
use Rattle.worked_media.proofs.stream_laws.goes_on_behind_a_silent_tick.Goals as goal

pub returns : goal.returns
returns c = λ first_seq first_ts before mixed.
    let ssrc = c.args.mix.now.ssrc in
    let sound = sound_of Pcmu [] c.args.samples.now in
    let keeps =
    c.mix_time_goes_on.ensures.pace ssrc first_seq first_ts before sound 0
    (record { rate = 44100; moment = 20000000 } ∷ []) sound 40000000 in
    let sent =
    three-ticks c.args.mix.now c.send.new.self c.pass.new.self c.send-2.new.self first_seq first_ts before
    (sounding sound 0) (silent 44100 20000000) (sounding sound 40000000) c.in_ok-first.first c.in_ok-second.second
    c.in_ok-first.ensures.ssrc c.pass.ensures.ssrc c.in_ok-first.ensures.gives c.pass.ensures.gives
    c.in_ok-second.ensures.gives mixed in
    let both =
    two-behind (mix_list ssrc first_seq first_ts before) c.in_ok-first.first c.in_ok-second.second _ _
    (sym sent ∙ keeps.packets) in
    let number = first_seq + length (mix_list ssrc first_seq first_ts before) in
    let same : keeps.ts + 882 + 160 ≡ keeps.ts + 1042 = omega arith in
    (keeps.ts, keeps.marker, (both.0, both.1 ∙ ap (λ t. mix_packet ssrc (number + 1) t true sound) same))
