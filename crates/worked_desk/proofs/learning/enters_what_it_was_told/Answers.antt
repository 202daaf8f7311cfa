use Rattle.worked_desk.proofs.Later.{ok_later}
use Rattle.worked_desk.proofs.learning.enters_what_it_was_told.Goals as goal

pub returns : goal.returns
returns c =
    ok_later (λ e. e.lists) c.args.notice.lists c.learn.new.self.lists c.enter.result c.learn.ensures.told
    c.enter.ensures.later
