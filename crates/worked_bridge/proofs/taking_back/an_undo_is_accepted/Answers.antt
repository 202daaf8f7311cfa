use Rattle.std.proofs.Common.{◌+◌, ℕ, [], ◌∷◌, refl, subst}
use Rattle.desk_edit.specs.Asked.CallOf.{Undo}
use Rattle.desk_calls.specs.declared.reply.Reply.TheVariants.{Accepted}
use Rattle.bridge_core.specs.Calls.{Answers}
use Rattle.bridge_core.specs.UndoRuns.{UndoesInARow}
use Rattle.worked_bridge.proofs.Answered.{only}
use Rattle.worked_bridge.proofs.taking_back.an_undo_is_accepted.Goals as goal

pub returns : goal.returns
returns c = λ some few.
    let first = c.args.core.now in
    let last = c.desk.new.self in
    let reply = c.desk.result in
    let undoes : UndoesInARow first 1 (reply ∷ []) last = (
      few,
      (
        last,
        reply,
        [],
        refl,
        subst (λ (n : ℕ). Answers first last (Undo n) reply) c.version-last.ensures c.desk.ensures.answer,
        (refl, refl),
      ),
    ) in
    only reply (Accepted (first.version + 1))
    (c.undos_and_redos_are_accepted.ensures.undos first last 1 (reply ∷ []) some undoes)
