use Rattle.std.proofs.Common.{ap, subst, ◌∙◌}
use Rattle.desk_edit.specs.InForce.{numbers_rise}
use Rattle.desk_revert.proofs.Numbered.{rise_of}
use Rattle.desk_calls.specs.Desk.{DeskOf}
use Rattle.desk_calls.specs.Following.{HasCalled}
use Rattle.desk_calls.proofs.desk.Desk.calls.Goals as goal

pub returns-clause-rise : goal.returns-clause-rise
returns-clause-rise g c =
    let was = c.self.inside in
    ap numbers_rise c.done.ensures
    ∙ rise_of was.version was.entries.undone was.entries.done c.self.invariant.numbered

pub returns-clause-called : goal.returns-clause-called
returns-clause-called g c = subst (λ (d : DeskOf). HasCalled d d.history) c.self.view_is c.self.invariant.called
