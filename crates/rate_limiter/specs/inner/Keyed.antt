-- The buckets that are kept, by the parts of their addresses.
use Rattle.std.specs.Prelude.{◌≡◌, ℕ, ◌-◌, Bool, ◌&&◌, nat_eq, List, ◌∷◌, take, map, Option, None, Some}
use Rattle.std.specs.List.{AllByRecursion}
use Rattle.std.specs.Str.{bytes_eq}
use Rattle.std.specs.Map.{lookup_entry, remove_entry}
use Rattle.std.specs.Option.{option_map_or}
use Rattle.rtp_codec.specs.declared.address.Address.{Address}
use Rattle.rate_limiter.specs.declared.bucket.Bucket.{Bucket}
use Rattle.rate_limiter.specs.declared.key.AddressKey.{AddressKey}
use Rattle.rate_limiter.specs.Buckets.{used}

abbrev pub same_key : AddressKey → AddressKey → Bool
same_key a b = bytes_eq a.ip b.ip && nat_eq a.port b.port

-- the key of an address
abbrev pub key_of : Address → AddressKey
key_of a = record { ip = a.ip; port = a.port }

-- Each bucket stands under the key of its address.
abbrev pub AreKeyed : List (AddressKey × Bucket) → Type 0
AreKeyed entries = AllByRecursion (λ e. e.0 ≡ key_of e.1.address) entries

-- the buckets, without their keys
abbrev pub buckets_in : List (AddressKey × Bucket) → List Bucket
buckets_in entries = map (λ e. e.1) entries

-- with this under the key, before the others, of which there may be so many with it
abbrev pub put_within : ℕ → AddressKey → Bucket → List (AddressKey × Bucket) → List (AddressKey × Bucket)
put_within most key a entries =
    option_map_or (λ e. (e.0, a) ∷ remove_entry (same_key key) entries)
    (lookup_entry (same_key key) entries) ((key, a) ∷ take (most - 1) entries)

-- the buckets after a draft: its bucket was used, or nothing was
abbrev pub drafted : Option Bucket → List Bucket → List Bucket
drafted None buckets = buckets
drafted (Some a) buckets = used a buckets
