use Rattle.std.proofs.Common.{arith}
use Rattle.desk_text.proofs.PartLemmas.{words_front}
use Rattle.desk_text.proofs.parts.front.Goals as goal

pub returns-else-count-eq0 : goal.returns-else-count-eq0
returns-else-count-eq0 c =
    words_front c.args.text.now c.args.count c.args.at (omega (arith, c.if-count-eq0.false)) c.requires.next
    c.requires.inside
