use Rattle.std.proofs.Common.{ap, ◌∙◌, drop, ℕ, ◌+◌, arith}
use Rattle.rtcp_codec.proofs.Descriptions.{item_at, no_items}
use Rattle.rtcp_codec.proofs.judging_descriptions.behind_item.Goals as goal

pub returns-then-octets-lt2-clause-none : goal.returns-then-octets-lt2-clause-none
returns-then-octets-lt2-clause-none c = no_items c.args.octets.now c.requires (omega arith)

pub returns-then-octets-size-clause-none : goal.returns-then-octets-size-clause-none
returns-then-octets-size-clause-none c = no_items c.args.octets.now c.requires (omega arith)

pub returns-clause-some : goal.returns-clause-some
returns-clause-some c =
    item_at c.args.octets.now c.split_at.result.1.now (λ i. omega (arith, c.type_inv.octets i)) c.requires (omega arith)
    (omega arith) (c.split_at.ensures.back ∙ ap (λ (n : ℕ). drop (2 + n) c.args.octets.now) c.from-size.ensures)
