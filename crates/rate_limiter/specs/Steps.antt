-- What happens to a limiter, step by step, and what it grants (own).
use Rattle.std.specs.Prelude.{ℕ, ◌+◌, ◌≤◌, min, nat_eq, nat_le, Bool, false, ◌&&◌, not, if◌then◌else◌, List, [], ◌∷◌}
use Rattle.std.specs.Prelude.{Option, None, Some}
use Rattle.std.specs.Option.{is_some}
use Rattle.rtp_codec.specs.declared.address.Address.{Address}
use Rattle.rtp_codec.specs.Address.{same_address}
use Rattle.rate_limiter.specs.declared.bucket.Bucket.{Bucket}
use Rattle.rate_limiter.specs.declared.quota.Quota.{Quota}
use Rattle.rate_limiter.specs.declared.quota.Quota.TheVariants.{Numbers, Items}
use Rattle.rate_limiter.specs.Buckets.{bucket_at, bucket_of, used, refilled, paid, counted, left_in, window_of}

-- a datagram of this many octets came from an address; this many octets are to be sent to it; it asks for this much of
-- a quota
pub data LimiterStep : Type 0 where
  refill : (from : Address) → (octets : ℕ) → LimiterStep
  spend : (to : Address) → (octets : ℕ) → LimiterStep
  ask : (from : Address) → (moment : ℕ) → (quota : Quota) → (count : ℕ) → LimiterStep

-- whether a bucket pays for this many octets
abbrev pub pays : ℕ → Option Bucket → Bool
pays octets None = false
pays octets (Some a) = nat_le octets a.tokens

-- whether this many octets may be sent to an address: it has a bucket with tokens for them
abbrev pub may_spend : Address → ℕ → List Bucket → Bool
may_spend to octets buckets = pays octets (bucket_at to buckets)

-- how much of what an address asks for is granted
abbrev pub may_ask : Address → ℕ → Quota → ℕ → List Bucket → ℕ
may_ask from moment quota count buckets = min count (left_in (window_of moment) quota (bucket_of from buckets))

-- the buckets after a step
abbrev pub buckets_after : LimiterStep → List Bucket → List Bucket
buckets_after (refill from octets) buckets = used (refilled octets (bucket_of from buckets)) buckets
buckets_after (spend to octets) buckets =
    if may_spend to octets buckets then used (paid octets (bucket_of to buckets)) buckets else buckets
buckets_after (ask from moment quota count) buckets =
    used (counted (window_of moment) quota (may_ask from moment quota count buckets) (bucket_of from buckets)) buckets

-- the octets that came from an address in a step
abbrev pub octets_from : Address → LimiterStep → ℕ
octets_from address (refill from octets) = if same_address from address then octets else 0
octets_from address (spend to octets) = 0
octets_from address (ask from moment quota count) = 0

-- the octets that a step grants to an address
abbrev pub octets_to : Address → LimiterStep → List Bucket → ℕ
octets_to address (refill from octets) buckets = 0
octets_to address (spend to octets) buckets =
    if same_address to address && may_spend to octets buckets then octets else 0
octets_to address (ask from moment quota count) buckets = 0

-- as much of a quota as this is, if it is so much of another
abbrev pub counted_as : Quota → Quota → ℕ → ℕ
counted_as Numbers Numbers count = count
counted_as Numbers Items count = 0
counted_as Items Numbers count = 0
counted_as Items Items count = count

-- how much of a quota a step grants to an address in a window
abbrev pub granted_at : Address → Quota → ℕ → LimiterStep → List Bucket → ℕ
granted_at address quota window (refill from octets) buckets = 0
granted_at address quota window (spend to octets) buckets = 0
granted_at address quota window (ask from moment asked count) buckets =
    if same_address from address && nat_eq (window_of moment) window
    then counted_as quota asked (may_ask from moment asked count buckets)
    else 0

-- 1 if a step enters an address anew, else 0
abbrev pub enters : Address → LimiterStep → List Bucket → ℕ
enters address step buckets =
    if is_some (bucket_at address (buckets_after step buckets)) && not (is_some (bucket_at address buckets))
    then 1
    else 0

-- the octets that came from an address
abbrev pub all_from : Address → List LimiterStep → ℕ
all_from address [] = 0
all_from address (s ∷ ss) = octets_from address s + all_from address ss

-- the octets that were granted to an address
abbrev pub all_to : Address → List LimiterStep → List Bucket → ℕ
all_to address [] buckets = 0
all_to address (s ∷ ss) buckets = octets_to address s buckets + all_to address ss (buckets_after s buckets)

-- how much of a quota was granted to an address in a window
abbrev pub all_asked : Address → Quota → ℕ → List LimiterStep → List Bucket → ℕ
all_asked address quota window [] buckets = 0
all_asked address quota window (s ∷ ss) buckets =
    granted_at address quota window s buckets + all_asked address quota window ss (buckets_after s buckets)

-- how many times an address was entered anew
abbrev pub entries : Address → List LimiterStep → List Bucket → ℕ
entries address [] buckets = 0
entries address (s ∷ ss) buckets = enters address s buckets + entries address ss (buckets_after s buckets)

-- No moment is before this one, or before one that came earlier.
abbrev pub AreInOrder : ℕ → List LimiterStep → Type 0
AreInOrder moment [] = Unit {0}
AreInOrder moment (refill from octets ∷ ss) = AreInOrder moment ss
AreInOrder moment (spend to octets ∷ ss) = AreInOrder moment ss
AreInOrder moment (ask from next quota count ∷ ss) = (moment ≤ next) × AreInOrder next ss
