use Rattle.desk_revert.proofs.Exchanging.{put_together, exchanged_parts}
use Rattle.desk_revert.proofs.differing.difference.Goals as goal

pub returns-clause-fits : goal.returns-clause-fits
returns-clause-fits g c =
    (put_together c.args.before.now c.args.behind.now c.members.result.now c.members-2.result.now c.others.result.now
    c.others-2.result.now c.in_ok-gone.gone.items c.in_ok-gone.come.items c.in_ok-taken.taken.items
    c.in_ok-taken.put.items c.new.result c.new-2.result c.none.result c.members.ensures.members
    c.members-2.ensures.members c.others.ensures.rows c.others-2.ensures.rows c.in_ok-gone.ensures
    c.in_ok-taken.ensures.gone c.in_ok-taken.ensures.come c.new.ensures c.new-2.ensures c.none.ensures
    c.members.ensures.good c.members-2.ensures.good c.requires).0

pub returns-clause-leads : goal.returns-clause-leads
returns-clause-leads g c =
    (put_together c.args.before.now c.args.behind.now c.members.result.now c.members-2.result.now c.others.result.now
    c.others-2.result.now c.in_ok-gone.gone.items c.in_ok-gone.come.items c.in_ok-taken.taken.items
    c.in_ok-taken.put.items c.new.result c.new-2.result c.none.result c.members.ensures.members
    c.members-2.ensures.members c.others.ensures.rows c.others-2.ensures.rows c.in_ok-gone.ensures
    c.in_ok-taken.ensures.gone c.in_ok-taken.ensures.come c.new.ensures c.new-2.ensures c.none.ensures
    c.members.ensures.good c.members-2.ensures.good c.requires).1

pub returns-clause-members : goal.returns-clause-members
returns-clause-members g c =
    exchanged_parts c.members.result.now c.members-2.result.now c.args.before.now.members c.args.behind.now.members
    c.in_ok-gone.gone.items c.in_ok-gone.come.items c.in_ok-taken.taken.items c.in_ok-taken.put.items c.new.result
    c.new-2.result c.members.ensures.members c.members-2.ensures.members c.new.ensures c.new-2.ensures
    c.in_ok-gone.ensures
