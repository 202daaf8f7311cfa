use Rattle.std.proofs.Common.{◌≡◌, ◌+◌, ◌≤◌, ℕ, [], ◌∷◌, refl, ap, subst, ◌∙◌, arith}
use Rattle.desk_edit.specs.Asked.CallOf.{Redo, Undo}
use Rattle.desk_calls.specs.declared.reply.Reply.{Reply}
use Rattle.desk_calls.specs.declared.reply.Reply.TheVariants.{Accepted}
use Rattle.bridge_core.specs.Calls.{Answers}
use Rattle.desk_edit.specs.Calls.{call_limit}
use Rattle.bridge_core.specs.UndoRuns.{RedoesInARow, UndoesInARow}
use Rattle.worked_bridge.proofs.Answered.{only}
use Rattle.worked_bridge.proofs.taking_back.an_undo_is_redone.Goals as goal

before : (v : ℕ) → v + 2 ≤ call_limit → v + 1 ≤ call_limit
before v few = omega (arith, few)

behind : (a v : ℕ) → a ≡ v + 1 → v + 2 ≤ call_limit → a + 1 ≤ call_limit
behind a v is few = omega (arith, is, few)

two_on : (a v : ℕ) → a ≡ v + 1 → a + 1 ≡ v + 2
two_on a v is = omega (arith, is)

pub returns : goal.returns
returns c = λ some few.
    let first = c.args.core.now in
    let back = c.desk.new.self in
    let last = c.desk-2.new.self in
    let undone = c.desk.result in
    let redone = c.desk-2.result in
    let v = first.version in
    let answer = subst (λ (n : ℕ). Answers first back (Undo n) undone) c.version-last.ensures c.desk.ensures.answer in
    let undoes : UndoesInARow first 1 (undone ∷ []) back =
    (before v few, (back, undone, [], refl, answer, (refl, refl))) in
    let accepted =
    only undone (Accepted (v + 1))
    (c.undos_and_redos_are_accepted.ensures.undos first back 1 (undone ∷ []) some undoes) in
    let version : back.version ≡ v + 1 = (subst (λ (r : Reply). Answers first back (Undo v) r) accepted answer).1 in
    let redoes : RedoesInARow back 1 (redone ∷ []) last = (
      behind back.version v version few,
      (
        last,
        redone,
        [],
        refl,
        subst (λ (n : ℕ). Answers back last (Redo n) redone) c.version-last-2.ensures c.desk-2.ensures.answer,
        (refl, refl),
      ),
    ) in
    let law = c.undos_are_redone.ensures first back last 1 (undone ∷ []) (redone ∷ []) some undoes redoes in (
      only redone (Accepted (back.version + 1)) law.0 ∙ ap Accepted (two_on back.version v version),
      law.1.0,
      law.1.1,
      law.1.2,
    )
