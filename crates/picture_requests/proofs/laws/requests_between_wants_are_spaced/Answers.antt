use Rattle.std.proofs.Common.{None, false}
use Rattle.picture_requests.specs.Requests.{no_requests}
use Rattle.picture_requests.proofs.Apart.{apart}
use Rattle.picture_requests.proofs.laws.requests_between_wants_are_spaced.Goals as goal

pub returns : goal.returns
returns c source steps order fair =
    apart source 0 steps no_requests None false order fair tt (λ wrong. absurd (cc (wrong)))
