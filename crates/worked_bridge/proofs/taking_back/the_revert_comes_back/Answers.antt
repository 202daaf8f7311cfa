use Rattle.std.proofs.Common.{◌≡◌, ◌+◌, ◌≤◌, ℕ, [], ◌∷◌, refl, ap, sym, subst, ◌∙◌, arith}
use Rattle.desk_edit.specs.Asked.CallOf.{Revert, Undo}
use Rattle.desk_calls.specs.declared.reply.Reply.TheVariants.{Accepted}
use Rattle.bridge_core.specs.Calls.{Answers}
use Rattle.desk_edit.specs.Calls.{call_limit}
use Rattle.bridge_core.specs.UndoRuns.{AcceptsAll, UndoesInARow}
use Rattle.worked_bridge.proofs.Answered.{only}
use Rattle.worked_bridge.proofs.taking_back.the_revert_comes_back.Goals as goal

two_on : (a b v : ℕ) → a ≡ v + 1 → b ≡ a → b + 1 ≡ v + 2
two_on a b v first second = omega (arith, first, second)

fits : (a b v : ℕ) → a ≡ v + 1 → b ≡ a → v + 2 ≤ call_limit → b + 1 ≤ call_limit
fits a b v first second few = omega (arith, first, second, few)

pub returns-in-Accepted : goal.returns-in-Accepted
returns-in-Accepted c = λ few.
    let first = c.args.core.now in
    let middle = c.desk.new.self in
    let last = c.desk-in-Accepted.new.self in
    let reply = c.desk-in-Accepted.result in
    let no = c.in-Accepted.no in
    let done = c.in-Accepted.ensures.answer in
    let number : no ≡ first.version + 1 = done.0 in
    let version : middle.version ≡ no = done.1 in
    let accepts : AcceptsAll first (Revert c.args.number ∷ []) middle =
    (middle, subst (λ (n : ℕ). Answers first middle (Revert c.args.number) (Accepted n)) number done, tt, refl) in
    let undoes : UndoesInARow middle 1 (reply ∷ []) last = (
      fits no middle.version first.version number version few,
      (
        last,
        reply,
        [],
        refl,
        subst (λ (n : ℕ). Answers middle last (Undo n) reply) (sym version) c.desk-in-Accepted.ensures.answer,
        (refl, refl),
      ),
    ) in
    let law =
    c.commands_come_back.ensures.back first middle last (Revert c.args.number ∷ []) (reply ∷ []) accepts undoes in (
      only reply (Accepted (middle.version + 1)) law.0
          ∙ ap Accepted (two_on no middle.version first.version number version),
      law.1,
      law.2,
    )
