use Rattle.rtrb.specs.Ring.{IsPair}
use Rattle.worked_front.proofs.TakenLemmas.{last_feeds}
use Rattle.worked_front.proofs.taking.close_and_compare.Goals as goal

pub slots_beside-requires : goal.slots_beside-requires
slots_beside-requires g c =
    last_feeds IsPair c.args.bridge c.close-ends.result.items _ c.in-Some.end c.args.taken.now c.requires.one
    c.close-ends.ensures.fed c.requires.ring c.in-Some.ensures.items
