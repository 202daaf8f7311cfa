use Rattle.std.proofs.Common.{ℕ, List, ◌≡◌, get_or, length, ap, ◌∙◌, arith}
use Rattle.std.proofs.lemmas.List.{get_or-take, length-drop}
use Rattle.rtcp_codec.proofs.Descriptions.{item_is_whole, item_parts}
use Rattle.rtcp_codec.proofs.reading_descriptions.item_from.Goals as goal

pub split_at-requires : goal.split_at-requires
split_at-requires g c = omega (arith, item_is_whole c.args.octets.now c.requires.no_null c.requires.whole)

pub split_at-requires-2 : goal.split_at-requires-2
split_at-requires-2 g c =
    let second : get_or c.split_at.result.0.now 1 0 ≡ get_or c.args.octets.now 1 0 =
    ap (λ (l : List ℕ). get_or l 1 0) c.split_at.ensures.front ∙ get_or-take 2 c.args.octets.now 1 0 (omega arith) in
    omega (
      arith,
      c.from.ensures,
      second,
      ap length c.split_at.ensures.back,
      length-drop 2 c.args.octets.now,
      item_is_whole c.args.octets.now c.requires.no_null c.requires.whole,
    )

pub returns-clause-parts : goal.returns-clause-parts
returns-clause-parts g c =
    item_parts c.args.octets.now c.split_at.result.0.now c.split_at.result.1.now c.in_ok-text.text.items
    c.split_at-2.result.1.now c.from.result c.split_at.ensures.front c.split_at.ensures.back c.from.ensures
    (c.in_ok-text.ensures.items ∙ c.split_at-2.ensures.front) c.split_at-2.ensures.back
    (item_is_whole c.args.octets.now c.requires.no_null c.requires.whole)
