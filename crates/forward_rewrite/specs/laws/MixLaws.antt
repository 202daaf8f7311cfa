-- What holds of all that a mix stream sends.
use Rattle.std.specs.Prelude.{◌≡◌, ℕ, ◌+◌, Bool, true, false, not, List, [], ◌∷◌, ◌++◌, length, map, None}
use Rattle.std.specs.List.{last_or}
use Rattle.media_items.specs.Formats.{tick_of}
use Rattle.forward_rewrite.specs.declared.tick_time.TickTime.{TickTime}
use Rattle.forward_rewrite.specs.Mixes.{Sound, MixTick, silent, sounding, mix_packet, packets_in, begun, mix_list}
use Rattle.forward_rewrite.specs.Mixes.{units_of, advance, sounded}

-- a silent tick at this rate and moment
abbrev pub silent_at : TickTime → MixTick
silent_at time = silent time.rate time.moment

-- whether there are any
abbrev pub any : List TickTime → Bool
any [] = false
any (time ∷ times) = true

-- the ticks before, one with a sound, silent ones, and another one with a sound
abbrev pub with_pause : List MixTick → Sound → ℕ → List TickTime → Sound → ℕ → List MixTick
with_pause before sound moment pauses later later_moment =
    before ++ sounding sound moment ∷ (map silent_at pauses ++ sounding later later_moment ∷ [])

-- Two sounds go out as two packets behind those before: numbered one after the other, the second as much later as the
-- silent ticks and itself have samples, each at its own rate, and with the marker just where silent ticks lie between.
pub record KeepsPace (ssrc first_seq first_ts : ℕ) (before : List MixTick) (sound : Sound) (moment : ℕ)
    (pauses : List TickTime) (later : Sound) (later_moment : ℕ) : Type 0 where
  pub ts : ℕ
  pub marker : Bool
  pub packets :
      (let number = first_seq + length (mix_list ssrc first_seq first_ts before) in
      mix_list ssrc first_seq first_ts (with_pause before sound moment pauses later later_moment)
      ≡ mix_list ssrc first_seq first_ts before
      ++ mix_packet ssrc number ts marker sound
      ∷ mix_packet ssrc (number + 1) (ts + units_of (map silent_at pauses) + tick_of later.format) (any pauses) later
      ∷ [])

-- One tick more sends what it sounds like behind all before it, under the next number, at the time to which the ticks
-- have come, and with the marker where the tick before sent none.
abbrev pub SendsMore : (ssrc first_seq first_ts : ℕ) → List MixTick → MixTick → Type 0
SendsMore ssrc first_seq first_ts before tick =
    let sent = mix_list ssrc first_seq first_ts before in
    let ts = first_ts + advance (begun (before ++ tick ∷ [])) in
    mix_list ssrc first_seq first_ts (before ++ tick ∷ [])
    ≡ sent ++ packets_in ssrc (first_seq + length sent) ts (not (sounded (last_or None (begun before)))) tick.sound
