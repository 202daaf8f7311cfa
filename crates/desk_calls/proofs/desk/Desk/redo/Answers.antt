use Rattle.std.specs.Prelude.{◌+◌, ◌<◌}
use Rattle.std.proofs.Common.{◌≡◌, refl, sym, subst}
use Rattle.desk_edit.specs.Calls.{call_limit, with_redo}
use Rattle.desk_calls.specs.Desk.{DeskOf}
use Rattle.desk_calls.specs.inner.Sound.{desk_seen}
use Rattle.desk_calls.proofs.Planned.{of_ok}
use Rattle.desk_calls.proofs.Sounding.{sound_redone}
use Rattle.desk_calls.proofs.desk.Desk.redo.Goals as goal

pub invariant_of-self : goal.invariant_of-self
invariant_of-self g c =
    let was = c.self.inside in
    let old : DeskOf = desk_seen was.version was.history was.entries in
    let new : DeskOf = desk_seen (was.version + 1) c.redo.new.self c.redo-2.new.self in
    let does = of_ok _ c.redo.result c.if-is_err.ensures.value c.redo.ensures.ok in
    let is : old ≡ c.args.self.now = c.self.view_is in
    let turns : new.history ≡ with_redo old.history =
    λ i.
    record {
      start = c.redo.ensures.start i;
      done = c.redo-2.ensures.done i;
      undone = c.redo-2.ensures.undone i;
      accepted = was.version + 1;
    } in
    sound_redone old new c.self.invariant (subst (λ (d : DeskOf). d.version < call_limit) (sym is) c.requires.some.1)
    refl turns (does.0, does.1, does.2, does.3, does.4)
