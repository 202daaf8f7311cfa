use Rattle.std.proofs.Common.{◌≡◌, ◌∙◌, ◌<◌, ◌≤◌, ◌+◌, ℕ, List, [], ◌∷◌, ◌++◌, length, take, sym, ap, arith}
use Rattle.std.proofs.Common.{length-append}
use Rattle.std.proofs.lemmas.List.{take_all, take-append-le}
use Rattle.event_lines.specs.declared.cause.Cause.{Cause}
use Rattle.event_lines.specs.Told.{most_causes}
use Rattle.event_lines.proofs.cause.Causes.note.Goals as goal

-- where one more fits, all are taken
fits : (n : ℕ) (causes : List Cause) (cause : Cause) → length causes < n
    → causes ++ cause ∷ [] ≡ take n (causes ++ cause ∷ [])
fits n causes cause few =
    sym (take_all n (causes ++ cause ∷ []) (let l = length-append causes (cause ∷ []) in omega (arith, l, few)))

-- where none fits, all are taken but the last
full : (n : ℕ) (causes : List Cause) (cause : Cause) → length causes ≤ n → n ≤ length causes
    → causes ≡ take n (causes ++ cause ∷ [])
full n causes cause few many = sym (take-append-le n causes (cause ∷ []) many ∙ take_all n causes few)

pub returns-then-len-lt-MOST_CAUSES : goal.returns-then-len-lt-MOST_CAUSES
returns-then-len-lt-MOST_CAUSES c =
    let ok = c.self.inside.list.ok in
    let here = ap length c.self.view_is in
    c.push_reserved.ensures.items ∙ (ap (λ (l : List Cause). l ++ c.args.cause ∷ []) c.self.view_is
    ∙ fits most_causes c.args.self.now c.args.cause
    (omega (arith, ok, here, c.len.ensures, c.if-len-lt-MOST_CAUSES.true)))

pub returns-else-len-lt-MOST_CAUSES : goal.returns-else-len-lt-MOST_CAUSES
returns-else-len-lt-MOST_CAUSES c =
    let ok = c.self.inside.list.ok in
    let here = ap length c.self.view_is in
    full most_causes c.args.self.now c.args.cause (omega (arith, ok, here, c.self.invariant.0))
    (omega (arith, ok, here, c.len.ensures, c.if-len-lt-MOST_CAUSES.false))
