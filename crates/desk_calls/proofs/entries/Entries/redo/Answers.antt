use Rattle.std.specs.Prelude.{◌++◌}
use Rattle.std.proofs.Common.{sym, ap, ◌∙◌}
use Rattle.desk_edit.specs.Calls.{front, final}
use Rattle.desk_calls.specs.inner.Kept.{EntriesOf}
use Rattle.desk_calls.proofs.Ends.{front_push, final_push}
use Rattle.desk_calls.proofs.entries.Entries.redo.Goals as goal

pub returns-in-Some-clause-undone : goal.returns-in-Some-clause-undone
returns-in-Some-clause-undone g c =
    sym (ap front c.in-Some.ensures.items ∙ front_push c.pop.new.self.items c.in-Some.last)
    ∙ ap (λ (e : EntriesOf). front e.undone) c.self.view_is

pub returns-in-Some-clause-done : goal.returns-in-Some-clause-done
returns-in-Some-clause-done g c =
    c.push_reserved.ensures.items
    ∙ sym (ap (λ es. c.self.inside.done.items ++ es)
    (ap final c.in-Some.ensures.items ∙ final_push c.pop.new.self.items c.in-Some.last))
    ∙ ap (λ (e : EntriesOf). e.done ++ final e.undone) c.self.view_is
