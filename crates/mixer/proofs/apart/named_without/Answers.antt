use Rattle.std.proofs.Common.{◌*◌, take, drop, sym, ap, ◌∙◌}
use Rattle.std.specs.Prelude.{min}
use Rattle.mixer.proofs.NamedOctets.{parts_named}
use Rattle.mixer.proofs.apart.named_without.Goals as goal

pub returns-clause-named : goal.returns-clause-named
returns-clause-named c front own back whole f o =
    let octets = c.args.octets.now in
    let rest = c.split_at.result.1.now in
    let p =
    parts_named front own back octets c.split_at.result.0.now rest c.split_at-2.result.1.now c.min-first.result
    c.min-second.result whole
    (c.split_at.ensures.front ∙ ap (λ k. take (4 * k) octets) (sym f))
    (c.split_at.ensures.back ∙ ap (λ k. drop (4 * k) octets) (sym f))
    (c.split_at-2.ensures.back ∙ ap (λ k. drop (4 * k) rest) (sym o))
    (c.min-first.ensures ∙ ap (λ k. min k 15) (sym f))
    c.min-second.ensures in
    record { count = p.count; octets = p.octets }
