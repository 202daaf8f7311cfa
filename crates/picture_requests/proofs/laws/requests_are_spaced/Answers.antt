use Rattle.std.proofs.Common.{None}
use Rattle.picture_requests.specs.Requests.{no_requests}
use Rattle.picture_requests.specs.Steps.{asks_of}
use Rattle.picture_requests.proofs.Spaced.{run, two_in_second}
use Rattle.picture_requests.proofs.laws.requests_are_spaced.Goals as goal

pub returns-clause-spaced : goal.returns-clause-spaced
returns-clause-spaced c source steps order due = run source 0 steps no_requests None order due tt

pub returns-clause-two : goal.returns-clause-two
returns-clause-two c source steps moment order due =
    two_in_second moment (asks_of source steps) (run source 0 steps no_requests None order due tt)
