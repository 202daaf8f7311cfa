use Rattle.std.specs.Prelude.{◌+◌, ◌∷◌, ◌++◌, ◌<◌}
use Rattle.std.proofs.Common.{◌≡◌, [], refl, sym, ap, subst, ◌∙◌}
use Rattle.desk_edit.specs.InForce.{desk_in_force}
use Rattle.desk_edit.specs.Calls.{call_limit, with_entry}
use Rattle.desk_calls.specs.Edits.{fits, after}
use Rattle.desk_calls.specs.Desk.{DeskOf}
use Rattle.desk_calls.specs.inner.Sound.{desk_seen}
use Rattle.desk_calls.proofs.Planned.{of_ok}
use Rattle.desk_calls.proofs.Sounding.{sound_done}
use Rattle.desk_calls.proofs.desk.Desk.apply.Goals as goal

pub invariant_of-self : goal.invariant_of-self
invariant_of-self g c =
    let was = c.self.inside in
    let old : DeskOf = desk_seen was.version was.history was.entries in
    let new : DeskOf = desk_seen (was.version + 1) c.push.new.self c.push-2.new.self in
    let does = of_ok _ c.push.result c.if-is_err.ensures.value c.push.ensures.ok in
    let is : old ≡ c.args.self.now = c.self.view_is in
    let turns : new.history ≡ with_entry old.history c.args.entry =
    λ i.
    record {
      start = c.push.ensures.start i;
      done = c.push-2.ensures.done i;
      undone = c.push-2.ensures.undone i;
      accepted = was.version + 1;
    } in
    sound_done old new c.args.entry c.args.edits c.self.invariant
    (ap (λ (d : DeskOf). fits d.desk c.args.edits) is ∙ c.requires.fits)
    (subst (λ (d : DeskOf). d.version < call_limit) (sym is) c.requires.capacity.1)
    (c.requires.number ∙ ap (λ (d : DeskOf). d.version + 1) (sym is))
    (ap (λ (d : DeskOf). after d.desk c.args.edits) is
    ∙ c.requires.leads
    ∙ ap (λ (d : DeskOf). desk_in_force d.history.start (d.history.done ++ c.args.entry ∷ [])) (sym is))
    refl turns does.0 does.1 does.2
