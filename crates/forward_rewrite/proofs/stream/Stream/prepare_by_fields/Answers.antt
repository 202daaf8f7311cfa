use Rattle.std.proofs.Common.{◌<◌, ◌^◌, rules}
use Rattle.forward_rewrite.proofs.Numbers.{lead_prepared}
use Rattle.forward_rewrite.proofs.stream.Stream.prepare_by_fields.Goals as goal

pub invariant_of-result : goal.invariant_of-result
invariant_of-result g c =
    let fits : c.self.inside.next < 2 ^ 16 = search rules in
    lead_prepared _ c.self.inside.next c.len.result _ c.sent.result.now c.in_ok-entries.entries.items fits
    c.in_ok-entries.ensures (search rules)
