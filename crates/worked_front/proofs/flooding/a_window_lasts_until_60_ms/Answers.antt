use Rattle.std.proofs.Common.{◌∙◌, ap, min}
use Rattle.rate_limiter.specs.declared.bucket.Bucket.{Bucket}
use Rattle.rate_limiter.specs.declared.quota.Quota.TheVariants.{Numbers}
use Rattle.rate_limiter.specs.Buckets.{left_in, window_of}
use Rattle.worked_front.proofs.Others.{from_fact}
use Rattle.worked_front.proofs.flooding.a_window_lasts_until_60_ms.Goals as goal

pub returns : goal.returns
returns c =
    from_fact c.ask.result c.ask.ensures.answer
    (λ granted is. is ∙ ap (λ (a : Bucket). min 1 (left_in (window_of 59999999) Numbers a)) c.requires)
