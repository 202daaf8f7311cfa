use Rattle.std.proofs.Common.{ℕ, Bool, true, false, List, drop, subst}
use Rattle.operator_lines.specs.Fed.{texts}
use Rattle.operator_connection.specs.Greeting.{GreetsLine}
use Rattle.operator_connection.proofs.TalkLemmas.{first_of}
use Rattle.operator_connection.proofs.talking.Talk.greet_first.Goals as goal

pub returns-then-branch-clause-first : goal.returns-then-branch-clause-first
returns-then-branch-clause-first c =
    let old = c.args.self.now in
    let new = c.greet_line.new.self in
    let line = c.first-item.result.items in
    let greets =
    subst (λ (l : List ℕ). GreetsLine true l old.outgoing new.outgoing old.standing new.standing) c.deref.ensures.value
    (subst
    (λ (b : Bool). GreetsLine b c.deref.result.now old.outgoing new.outgoing old.standing new.standing)
    c.if-branch.true
    c.in_ok-greet_line-in-len1-up.ensures.greets) in (
      line,
      texts (drop 1 c.args.lines.now),
      first_of (λ l. l.items) c.args.lines.now c.first-item.result c.in-len1-up.len_at_least c.first-item.is,
      greets,
    )

pub returns-else-branch-clause-first : goal.returns-else-branch-clause-first
returns-else-branch-clause-first c =
    let old = c.args.self.now in
    let new = c.greet_line.new.self in
    let line = c.first-item.result.items in
    let greets =
    subst (λ (l : List ℕ). GreetsLine false l old.outgoing new.outgoing old.standing new.standing) c.deref.ensures.value
    (subst
    (λ (b : Bool). GreetsLine b c.deref.result.now old.outgoing new.outgoing old.standing new.standing)
    c.if-branch.false
    c.in_ok-greet_line-in-len1-up.ensures.greets) in (
      line,
      texts (drop 1 c.args.lines.now),
      first_of (λ l. l.items) c.args.lines.now c.first-item.result c.in-len1-up.len_at_least c.first-item.is,
      greets,
    )
