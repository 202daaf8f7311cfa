-- The connections whose first line has not come (own).
use Rattle.std.specs.Prelude.{◌≡◌, ◌-◌, ℕ, Bool, List, nat_le}
use Rattle.operator_lines.specs.Cut.{lines_of, is_too_long}
use Rattle.operator_lines.specs.Inbound.{next_piece}
use Rattle.operator_lines.specs.Openings.{begins_as, beginning_told}
use Rattle.operator_lines.specs.declared.greeting.Beginning.{Beginning}
use Rattle.operator_lines.specs.declared.greeting.Beginning.TheVariants as begins
use Rattle.operator_threads.specs.declared.lobby.Fate.{Fate}
use Rattle.operator_threads.specs.declared.lobby.Fate.TheVariants as fates

-- how many there are at most
abbrev pub most_guests : ℕ
most_guests = 16

-- for how many nanoseconds nothing may come from one
abbrev pub longest_silence : ℕ
longest_silence = 30000000000

-- nothing has come from it for so long
abbrev pub has_been_silent : (since now : ℕ) → Bool
has_been_silent since now = nat_le longest_silence (now - since)

-- how a connection begins of which these octets have come
abbrev pub begun_by : (came : List ℕ) → Beginning
begun_by came = begins_as (lines_of (next_piece came)) (is_too_long (next_piece came))

-- it begins so, and is told this
abbrev pub IsBegunBy : (came : List ℕ) → Beginning → (told : List ℕ) → Type 0
IsBegunBy came begins told =
    (begins ≡ begun_by came)
    × (told ≡ beginning_told (lines_of (next_piece came)) (is_too_long (next_piece came)))

-- what becomes of it then
abbrev pub fate_of : Beginning → Fate
fate_of begins.Waits = fates.Waits
fate_of begins.Good = fates.Good
fate_of begins.Faulty = fates.Over
