-- A bucket that the worked calls show (own).
use Rattle.std.specs.Prelude.{List, [], ◌∷◌}
use Rattle.rtp_codec.specs.declared.address.Address.{Address}
use Rattle.rate_limiter.specs.declared.bucket.Bucket.{Bucket}

-- the bucket of this address alone, with the 256 octets of a new address and 150 more
abbrev pub with_406 : Address → List Bucket
with_406 address = record { address = address; tokens = 406; window = 0; numbers = 0; items = 0 } ∷ []
