-- Who speaks, by the levels that the bridge tells four times a second (own).
use Rattle.std.specs.Prelude.{◌≡◌, ℕ, ◌*◌, ◌^◌, min, Bool, true, false, ◌||◌, nat_eq, nat_lt, nat_le, List, [], ◌∷◌}
use Rattle.std.specs.Prelude.{if◌then◌else◌}
use Rattle.std.specs.List.{prefix_len}
use Rattle.desk_http.specs.declared.speaking.Quarter.{Quarter}
use Rattle.desk_http.specs.declared.speaking.SpeechState.{SpeechState}

-- The sound of a quarter of a second is over -45 dBov: 10^4.5 is 31,623, and 2^20 is the energy of the loudest sample.
abbrev pub is_loud : Quarter → Bool
is_loud q = nat_lt (q.samples * 2 ^ 20) (q.energy * 31623)

-- It is under -52 dBov (10^5.2 is 158,489), or there was none.
abbrev pub is_quiet : Quarter → Bool
is_quiet q = nat_eq q.samples 0 || nat_lt (q.energy * 158489) (q.samples * 2 ^ 20)

-- how many of the last quarters in a row were so; the newest one comes first
abbrev pub row_of : (Quarter → Bool) → List Quarter → ℕ
row_of is quarters = prefix_len is quarters

-- Who had these quarters speaks, the newest one first: from two loud ones in a row on, until four quiet ones in a row.
abbrev pub speaks : List Quarter → Bool
speaks [] = false
speaks (q ∷ before) =
    if nat_le 2 (row_of is_loud (q ∷ before)) then true
    else if nat_le 4 (row_of is_quiet (q ∷ before)) then false else speaks before

-- This is kept of a source that had these quarters.
pub record IsSpeechState (s : SpeechState) (quarters : List Quarter) : Type 0 where
  pub is_speaking : s.is_speaking ≡ speaks quarters
  pub loud : s.loud ≡ min 2 (row_of is_loud quarters)
  pub quiet : s.quiet ≡ min 4 (row_of is_quiet quarters)
