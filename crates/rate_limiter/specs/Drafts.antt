-- What a draft of a bucket stands for (own).
use Rattle.std.specs.Prelude.{List}
use Rattle.rtp_codec.specs.declared.address.Address.{Address}
use Rattle.rate_limiter.specs.declared.bucket.Bucket.{Bucket}

-- a draft: its address, the limiter's buckets before, and those after what was done with it
pub record DraftOf : Type 0 where
  pub address : Address
  pub before : List Bucket
  pub after : List Bucket
