-- How long a source of sound has been silent (own).
use Rattle.std.specs.Prelude.{ℕ, ◌+◌, ◌*◌, ◌^◌, nat_le, Bool, if◌then◌else◌, List, fold}
use Rattle.ingress.specs.declared.sound_count.SoundCount.{SoundCount}
use Rattle.bridge_stats.specs.declared.taken.TakenIn.{TakenIn}
use Rattle.bridge_stats.specs.Counts.{so_many}

-- The sound of a packet is at most -60 dBov: a millionth of the energy of as many of the loudest samples, 2^20 each.
abbrev pub is_faint : SoundCount → Bool
is_faint sound = nat_le (sound.energy * 10 ^ 6) (sound.samples * 2 ^ 20)

-- for how many samples there was silence, after the sound of one more packet
abbrev pub silent_after : (before : ℕ) → SoundCount → ℕ
silent_after before sound = if is_faint sound then so_many (before + sound.samples) else 0

-- for how many samples a source has been silent of which these datagrams came: the samples of its packets behind the
-- last one that was louder
abbrev pub silent_in : List TakenIn → ℕ
silent_in all = fold (λ before taken. silent_after before taken.sound) 0 all
