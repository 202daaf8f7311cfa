use Rattle.std.proofs.Common.{◌≡◌, arith}
use Rattle.worked_bridge.proofs.script_laws.a_bridge_is_named_once.Goals as goal

pub returns-clause-first : goal.returns-clause-first
returns-clause-first c line who renews e =
    let first : 2 ≡ 1 = c.bridge_lines.ensures.first 2 line who renews e in
    absurd (omega (arith, first))
