use Rattle.operator_desk.proofs.desk_inner.DeskInner.call.Goals as goal

-- the desk's own log is legal, and not the seat's
pub returns-then-not-show-clause-fault : goal.returns-then-not-show-clause-fault
returns-then-not-show-clause-fault g c =
    (c.if-not-show.ensures.same, (c.args.self.now.log, c.show.ensures.legal, c.if-not-show.ensures.foreign))
