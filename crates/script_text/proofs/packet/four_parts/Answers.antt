use Rattle.desk_text.proofs.Cuts.{one_part, two_parts, three_parts, four_parts, many_parts}
use Rattle.script_text.proofs.packet.four_parts.Goals as goal

pub returns-in_default : goal.returns-in_default
returns-in_default c = one_part 47 c.args.word.now c.in_default.ensures

pub returns-in_default-cut : goal.returns-in_default-cut
returns-in_default-cut c = two_parts 47 c.args.word.now _ c.in-Some.ensures c.in_default-cut.ensures

pub returns-in_default-cut-2 : goal.returns-in_default-cut-2
returns-in_default-cut-2 c =
    three_parts 47 c.args.word.now _ _ c.in-Some.ensures c.in-Some-cut.ensures c.in_default-cut-2.ensures

pub returns-in-Some-cut-3 : goal.returns-in-Some-cut-3
returns-in-Some-cut-3 c =
    many_parts 47 c.args.word.now _ _ _ _ c.in-Some.ensures c.in-Some-cut.ensures c.in-Some-cut-2.ensures
    c.in-Some-cut-3.ensures

pub returns-in-None : goal.returns-in-None
returns-in-None c =
    four_parts 47 c.args.word.now _ _ _ c.in-Some.ensures c.in-Some-cut.ensures c.in-Some-cut-2.ensures
    c.in-None.ensures
