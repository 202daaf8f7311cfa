use Rattle.std.proofs.Common.{sym, ap, ◌∙◌}
use Rattle.desk_edit.specs.Asked.CallOf.{Undo, Redo}
use Rattle.desk_edit.specs.Asked.{asked_by}
use Rattle.call_history.specs.Lists.{ListsOf, CallListsOf, with_call}
use Rattle.call_history.proofs.Ends.{undone_one, redone_one}
use Rattle.call_history.proofs.lists.CallLists.note.Goals as goal

pub returns-in-Some-clause-lists : goal.returns-in-Some-clause-lists
returns-in-Some-clause-lists g c =
    let inside = c.self.inside in
    let lists : ListsOf = record { done = inside.done.items; undone = inside.undone.items } in
    let now = c.args.self.now.lists in
    let made = c.args.made in
    let less = c.pop.new.self.items in
    let more = c.push_reserved.new.self.items in
    let last = c.in-Undo.last in
    undone_one lists less more c.in-Some.last made last c.in-Some.ensures.items c.push_reserved.ensures.items
    ∙ (ap (λ (h : CallListsOf). with_call h.lists (Undo last) made) c.self.view_is
    ∙ ap (λ k. with_call now k made) (sym (ap asked_by c.in-Undo.is)))

pub returns-in-Some-pop-clause-lists : goal.returns-in-Some-pop-clause-lists
returns-in-Some-pop-clause-lists g c =
    let inside = c.self.inside in
    let lists : ListsOf = record { done = inside.done.items; undone = inside.undone.items } in
    let now = c.args.self.now.lists in
    let made = c.args.made in
    let less = c.pop-in-Redo.new.self.items in
    let pushed = c.push_reserved-in-Some-pop in
    let last = c.in-Redo.last in
    redone_one lists less pushed.new.self.items c.in-Some-pop.last made last c.in-Some-pop.ensures.items
    pushed.ensures.items
    ∙ (ap (λ (h : CallListsOf). with_call h.lists (Redo last) made) c.self.view_is
    ∙ ap (λ k. with_call now k made) (sym (ap asked_by c.in-Redo.is)))
