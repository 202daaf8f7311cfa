use Rattle.worked_desk.proofs.Both.{first_begins, second_begins}
use Rattle.worked_desk.proofs.together.gathered.Goals as goal

pub returns-in-Ok-gather-clause-one : goal.returns-in-Ok-gather-clause-one
returns-in-Ok-gather-clause-one g c =
    first_begins c.args.one c.args.two c.in-Ok.seats.items c.push_reserved.new.self.items
    c.push_reserved-2.new.self.items c.in-Ok-gather.log.items c.in-Ok.ensures.items c.push_reserved.ensures.items
    c.push_reserved-2.ensures.items c.in-Ok-gather.ensures.begins

pub returns-in-Ok-gather-clause-two : goal.returns-in-Ok-gather-clause-two
returns-in-Ok-gather-clause-two g c =
    second_begins c.args.one c.args.two c.in-Ok.seats.items c.push_reserved.new.self.items
    c.push_reserved-2.new.self.items c.in-Ok-gather.log.items c.in-Ok.ensures.items c.push_reserved.ensures.items
    c.push_reserved-2.ensures.items c.in-Ok-gather.ensures.begins
