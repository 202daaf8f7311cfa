use Rattle.std.proofs.Common.{refl}
use Rattle.desk_calls.proofs.Sounding.{reserved_now, sound_reserved}
use Rattle.desk_calls.proofs.desk.Desk.reserve.Goals as goal

pub invariant_of-self : goal.invariant_of-self
invariant_of-self g c =
    let was = c.self.inside in
    sound_reserved was.version was.history c.reserve.new.self was.entries was.entries c.reserve.ensures.same refl
    c.self.invariant

pub invariant_of-self-2 : goal.invariant_of-self-2
invariant_of-self-2 g c =
    let was = c.self.inside in
    sound_reserved was.version was.history c.reserve.new.self was.entries c.reserve-2.new.self c.reserve.ensures.same
    c.reserve-2.ensures.same c.self.invariant

pub returns-then-is_err-clause-same : goal.returns-then-is_err-clause-same
returns-then-is_err-clause-same g c =
    let was = c.self.inside in
    reserved_now was.version was.history c.reserve.new.self was.entries was.entries c.args.self.now
    c.reserve.ensures.same refl c.self.view_is

pub returns-clause-same : goal.returns-clause-same
returns-clause-same g c =
    let was = c.self.inside in
    reserved_now was.version was.history c.reserve.new.self was.entries c.reserve-2.new.self c.args.self.now
    c.reserve.ensures.same c.reserve-2.ensures.same c.self.view_is
