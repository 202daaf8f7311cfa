-- How much the rate limiter left out of what addresses ask for and report (own).
use Rattle.std.specs.Prelude.{ℕ, nat_lt, Bool, false, if◌then◌else◌, List, [], ◌∷◌, length, Option, None, Some}
use Rattle.media_items.specs.Inputs.{Input, frame, audio, tick, nack, block, pli, report, renew}
use Rattle.rate_limiter.specs.declared.bucket.Bucket.{Bucket}
use Rattle.bridge_stats.specs.declared.others.Limited.{Limited}
use Rattle.media_front.specs.FedLanes.{one_more}
use Rattle.media_front.specs.Granted.{granted_by, after_input}

-- nothing was left out
abbrev pub none_limited : Limited
none_limited = record { nacks = 0; blocks = 0; plis = 0 }

-- less is granted than so much
abbrev pub lacks : Option ℕ → (count : ℕ) → Bool
lacks None count = false
lacks (Some granted) count = nat_lt granted count

-- one more, if this is so
abbrev pub more_if : Bool → ℕ → ℕ
more_if is_so count = if is_so then one_more count else count

-- An input counts as left out where less is granted of it than it asks for: a request where it loses some of its
-- numbers or all, a report block or a loss where lanes aren't given it.
abbrev pub counting : Option ℕ → Input → Limited → Limited
counting granted (nack request) limited =
    record limited { nacks = more_if (lacks granted (length request.numbers)) limited.nacks }
counting granted (block told) limited = record limited { blocks = more_if (lacks granted 1) limited.blocks }
counting granted (pli loss) limited = record limited { plis = more_if (lacks granted 1) limited.plis }
counting granted (frame f) limited = limited
counting granted (audio sound) limited = limited
counting granted (tick moment) limited = limited
counting granted (report moment) limited = limited
counting granted renew limited = limited

-- what was left out once these inputs were asked for, one after another
abbrev pub after_limiting : (cost moment : ℕ) → List Input → List Bucket → Limited → Limited
after_limiting cost moment [] buckets limited = limited
after_limiting cost moment (input ∷ rest) buckets limited =
    after_limiting cost moment rest (after_input cost moment input buckets)
    (counting (granted_by cost moment input buckets) input limited)
