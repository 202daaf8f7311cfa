use Rattle.std.proofs.Common.{◌≡◌, subst}
use Rattle.picture_requests.specs.Requests.{due as due_sources}
use Rattle.event_loop.specs.Turns.{History}
use Rattle.event_loop.proofs.state.FrontState.due_pictures.Goals as goal

pub returns : goal.returns
returns g c =
    subst
    (λ (h : History g.row.P.Denot g.row.S.Denot).
    c.in_ok-due.due.items ≡ due_sources c.args.now h.kept.pictures)
    c.self.view_is c.in_ok-due.ensures
