-- The lease of a desk (own).
use Rattle.std.specs.Prelude.{◌≡◌, ◌≤◌, ℕ, ◌+◌, ◌-◌, ◌/◌, min, max, Bool, true, not, ◌&&◌}
use Rattle.std.specs.Prelude.{◌||◌, nat_le, List, [], ◌∷◌, ◌++◌, codes, fold}
use Rattle.std.specs.Prelude.{Option, Some, None}
use Rattle.std.specs.Str.{bytes_eq}
use mathlib.Core.List.{IsPrefix}
use Rattle.logbook.specs.Pages.{Book}
use Rattle.desk_edit.specs.Told.{Told}
use Rattle.desk_edit.specs.declared.refusal.Carried.TheVariants.{Nothing}
use Rattle.desk_text.specs.declared.value.Value.TheVariants.{U64}
use Rattle.desk_text.specs.Text.{line_text, fixed, value, refused_text}
use Rattle.operator_lines.specs.declared.line_desk.LeaseAsk.{LeaseAsk}
use Rattle.operator_lines.specs.declared.line_desk.LeaseAsk.TheVariants.{Tell, Off, Lasts}

-- a lease that was given: when it ends, in milliseconds since 1970, and the name of the connection that gave it, as it
-- is told
pub record LeaseOf : Type 0 where
  pub until : ℕ
  pub holder : List ℕ

-- the leases that a desk was told, one after another, and the book in which they stand: each was given, or is none
-- where the one before was taken back
pub record LeasesOf : Type 0 where
  pub book : Book
  pub list : List (Option LeaseOf)

-- the lease that was told last; none where none was told
abbrev pub last_lease : List (Option LeaseOf) → Option LeaseOf
last_lease list = fold (λ (before next : Option LeaseOf). next) None list

-- The leases go on from those that were known, if they stand in the same book.
pub record HasLearnt (known now : LeasesOf) : Type 0 where
  pub goes_on : now.book ≡ known.book → IsPrefix known.list now.list

-- the leases that a desk was told, and the latest moment at which they were looked at, in nanoseconds
pub record DeskLeaseOf : Type 0 where
  pub told : LeasesOf
  pub latest : ℕ

-- they are looked at, at a moment of a connection: that of another one may have been later
abbrev pub looked_at : (moment : ℕ) → DeskLeaseOf → DeskLeaseOf
looked_at moment lease = record lease { latest = max moment lease.latest }

-- the millisecond of a moment, in nanoseconds
abbrev pub millisecond_of : ℕ → ℕ
millisecond_of moment = moment / 1000000

-- the last millisecond that is told
abbrev pub last_millisecond : ℕ
last_millisecond = 18446744073709551615

-- it has ended
abbrev pub has_ended : LeaseOf → (moment : ℕ) → Bool
has_ended lease moment = nat_le lease.until (millisecond_of moment)

-- a connection that is told by this name holds it: one without a name holds none
abbrev pub is_holder : LeaseOf → (name : List ℕ) → Bool
is_holder lease name = not (bytes_eq name (codes "-")) && bytes_eq name lease.holder

-- the desk takes a call of a connection of this name: there is no lease, or it lasts, or the connection holds it
abbrev pub takes_calls : Option LeaseOf → (moment : ℕ) → (name : List ℕ) → Bool
takes_calls None moment name = true
takes_calls (Some lease) moment name = not (has_ended lease moment) || is_holder lease name

-- whether the desk takes a call of this moment, by the last of these leases and as of this moment or a later one
abbrev pub IsJudged : List (Option LeaseOf) → (moment : ℕ) → (name : List ℕ) → (takes : Bool) → Type 0
IsJudged list moment name takes = (at : ℕ) × (takes ≡ takes_calls (last_lease list) at name) × (moment ≤ at)

-- one more lease was told
abbrev pub told_lease : Option LeaseOf → LeasesOf → LeasesOf
told_lease lease before = record before { list = before.list ++ lease ∷ [] }

-- the leases after a connection of this name has asked so
abbrev pub leases_after : LeaseAsk → (moment : ℕ) → (name : List ℕ) → LeasesOf → LeasesOf
leases_after Tell moment name before = before
leases_after Off moment name before = told_lease None before
leases_after (Lasts milliseconds) moment name before =
    told_lease (Some (record { until = min (millisecond_of moment + milliseconds) last_millisecond; holder = name }))
    before

-- the line of what is left of it, in milliseconds, and of who holds it
abbrev pub lease_line : Option LeaseOf → (moment : ℕ) → List ℕ
lease_line None moment = line_text (fixed (codes "lease") ∷ fixed (codes "off") ∷ [])
lease_line (Some lease) moment =
    line_text
    (fixed (codes "lease")
    ∷ value (U64 (lease.until - millisecond_of moment))
    ∷ fixed lease.holder
    ∷ [])

-- how a call is refused where the desk doesn't take it
abbrev pub closed : Told
closed = record { number = 27; name = codes "Closed"; carries = Nothing }

-- the line of such a refusal at a version
abbrev pub closed_line : (version : ℕ) → List ℕ
closed_line version = refused_text version closed
