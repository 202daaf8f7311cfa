-- What an address may be sent, and what it may ask for and report (own).
use Rattle.std.specs.Prelude.{ℕ, ◌+◌, ◌-◌, ◌*◌, ◌/◌, min, nat_eq, if◌then◌else◌, List, [], ◌∷◌, take, Option, None}
use Rattle.std.specs.Prelude.{Some}
use Rattle.rtp_codec.specs.declared.address.Address.{Address}
use Rattle.rtp_codec.specs.Address.{same_address}
use Rattle.rate_limiter.specs.declared.bucket.Bucket.{Bucket}
use Rattle.rate_limiter.specs.declared.quota.Quota.{Quota}
use Rattle.rate_limiter.specs.declared.quota.Quota.TheVariants.{Numbers, Items}

-- the most addresses that have a bucket
abbrev pub most_addresses : ℕ
most_addresses = 1024

-- the tokens of a new address, in octets
abbrev pub new_tokens : ℕ
new_tokens = 256

-- the most tokens, in octets
abbrev pub most_tokens : ℕ
most_tokens = 65536

-- the most of a quota that is granted to an address in a window: numbers that are asked for again; report blocks and
-- PLIs
abbrev pub most_of : Quota → ℕ
most_of Numbers = 512
most_of Items = 64

-- the number of the window that a moment lies in: each has 20 ms, in nanoseconds
abbrev pub window_of : ℕ → ℕ
window_of moment = moment / 20000000

-- the bucket of a new address
abbrev pub opened : Address → Bucket
opened address = record { address = address; tokens = new_tokens; window = 0; numbers = 0; items = 0 }

-- a bucket, or a new one if there is none
abbrev pub or_opened : Address → Option Bucket → Bucket
or_opened address None = opened address
or_opened address (Some a) = a

-- the bucket of an address
abbrev pub bucket_at : Address → List Bucket → Option Bucket
bucket_at address [] = None
bucket_at address (a ∷ rest) = if same_address a.address address then Some a else bucket_at address rest

-- the bucket of an address, a new one if it has none
abbrev pub bucket_of : Address → List Bucket → Bucket
bucket_of address buckets = or_opened address (bucket_at address buckets)

-- the buckets of the others, where each address stands there once
abbrev pub other_buckets : Address → List Bucket → List Bucket
other_buckets address [] = []
other_buckets address (a ∷ rest) = if same_address a.address address then rest else a ∷ other_buckets address rest

-- with this bucket before the others; the least recently used one is forgotten if there would be too many
abbrev pub used : Bucket → List Bucket → List Bucket
used a buckets = a ∷ take (most_addresses - 1) (other_buckets a.address buckets)

-- a datagram of this many octets came: 1.5 octets of tokens for each, up to the most tokens
abbrev pub refilled : ℕ → Bucket → Bucket
refilled octets a =
    record {
      address = a.address;
      tokens = min (a.tokens + octets * 3 / 2) most_tokens;
      window = a.window;
      numbers = a.numbers;
      items = a.items;
    }

-- this many octets were sent
abbrev pub paid : ℕ → Bucket → Bucket
paid octets a =
    record { address = a.address; tokens = a.tokens - octets; window = a.window; numbers = a.numbers; items = a.items }

-- how much of a quota was granted in the bucket's last window
abbrev pub counted_of : Quota → Bucket → ℕ
counted_of Numbers a = a.numbers
counted_of Items a = a.items

-- how much of a quota was granted in a window
abbrev pub counted_in : ℕ → Quota → Bucket → ℕ
counted_in window quota a = if nat_eq a.window window then counted_of quota a else 0

-- how much of a quota may still be granted in a window
abbrev pub left_in : ℕ → Quota → Bucket → ℕ
left_in window quota a = most_of quota - counted_in window quota a

-- this much of a quota was granted in a window
abbrev pub counted : ℕ → Quota → ℕ → Bucket → Bucket
counted window Numbers granted a =
    record {
      address = a.address;
      tokens = a.tokens;
      window = window;
      numbers = counted_in window Numbers a + granted;
      items = counted_in window Items a;
    }
counted window Items granted a =
    record {
      address = a.address;
      tokens = a.tokens;
      window = window;
      numbers = counted_in window Numbers a;
      items = counted_in window Items a + granted;
    }
