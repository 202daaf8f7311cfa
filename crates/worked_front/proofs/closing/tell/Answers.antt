use Rattle.worked_front.proofs.ToldLemmas.{lanes_still, as_many}
use Rattle.worked_front.proofs.closing.tell.Goals as goal

pub returns : goal.returns
returns g c =
    let lanes =
    lanes_still c.push.result c.args.bridge.now c.push.new.self c.args.lane c.args.notice c.args.moment c.requires.lane
    c.push.ensures.ok c.push.ensures.err in
    record { lanes = lanes; count = as_many c.args.bridge.now c.push.new.self lanes }
