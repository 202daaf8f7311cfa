use Rattle.std.proofs.Common.{◌≡◌, ◌+◌, ℕ, length, subst, arith}
use Rattle.lane_laws.specs.Merges.{UpTo}
use Rattle.lane_laws.proofs.ScriptLemmas.{script_is}
use Rattle.lane_laws.proofs.laws.scripts_are_merges.Goals as goal

pub returns : goal.returns
returns c calls items order up =
    let all : length calls ≡ 0 + length calls = omega arith in
    script_is 0 calls items order (subst (λ (most : ℕ). UpTo most items) all up)
