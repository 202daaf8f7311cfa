use Rattle.std.proofs.Common.{◌≡◌, ◌++◌, Bool, List, [], ℕ, IfOk, OnOk, sym, subst}
use Rattle.operator_lines.specs.Cut.{is_too_long, lines_of}
use Rattle.operator_lines.specs.Fed.{Brings, texts}
use Rattle.operator_lines.specs.Openings.{begins_as, beginning_told}
use Rattle.operator_lines.proofs.greeting.greet_octets.Goals as goal

pub returns-clause-begins : goal.returns-clause-begins
returns-clause-begins c =
    let fed = c.in_ok-fed.fed in
    let brought : Brings [] c.args.octets.now (texts fed.lines.items) fed.too_long =
    c.in_ok-fed.ensures.fed [] c.new-lines.ensures in
    let lines : texts fed.lines.items ≡ lines_of c.args.octets.now = sym brought.new_lines in
    subst
    (λ (ls : List (List ℕ)).
    IfOk c.begins.result (λ begins. begins ≡ begins_as ls (is_too_long c.args.octets.now)))
    lines
    (subst (λ (long : Bool). IfOk c.begins.result (λ begins. begins ≡ begins_as (texts fed.lines.items) long))
    brought.is_long
    (subst (λ ls. IfOk c.begins.result (λ begins. begins ≡ begins_as (texts ls) fed.too_long)) c.deref.ensures.value
    c.begins.ensures.begins))

pub returns-clause-text : goal.returns-clause-text
returns-clause-text c =
    let fed = c.in_ok-fed.fed in
    let out = c.begins.new.out.items in
    let before = c.args.out.now.items in
    let brought : Brings [] c.args.octets.now (texts fed.lines.items) fed.too_long =
    c.in_ok-fed.ensures.fed [] c.new-lines.ensures in
    let lines : texts fed.lines.items ≡ lines_of c.args.octets.now = sym brought.new_lines in
    subst
    (λ (ls : List (List ℕ)).
    OnOk c.begins.result (out ≡ before ++ beginning_told ls (is_too_long c.args.octets.now)))
    lines
    (subst
    (λ (long : Bool). OnOk c.begins.result (out ≡ before ++ beginning_told (texts fed.lines.items) long))
    brought.is_long
    (subst (λ ls. OnOk c.begins.result (out ≡ before ++ beginning_told (texts ls) fed.too_long)) c.deref.ensures.value
    c.begins.ensures.text))
