use Rattle.std.proofs.Common.{◌≡◌, ◌∙◌, ◌-◌, ◌≤◌, List, ◌++◌, length, take, drop, ap, sym, arith}
use Rattle.std.proofs.lemmas.List.{length-drop}
use Rattle.operator_desk.specs.PastCalls.{made_of}
use Rattle.operator_desk.proofs.PastLemmas.{length-made}
use Rattle.call_history.specs.AcceptedCall.{AcceptedOf}
use Rattle.trace_text.specs.TraceLines.{calls_text}
use Rattle.trace_scripts.proofs.ScriptLemmas.{between_same, where_ok}
use Rattle.trace_scripts.proofs.speaking.reach.Goals as goal

-- the calls that were read lead to the version, and so do those of each log that goes on
pub returns-clause-text : goal.returns-clause-text
returns-clause-text g c =
    let told = c.args.told.now.calls in
    let version = c.args.version in
    let seen = c.calls_after.new.self.taken.seat.seen in
    let all = made_of seen in
    let calls : c.in_ok-calls.calls.items ≡ drop told all = c.in_ok-calls.ensures.calls in
    let rest = ap length calls ∙ length-drop told all in
    let many = length-made 1 seen in
    let less : told ≤ length seen = omega (arith, c.if-len-version.false, c.if-version-told.false, rest, many) in
    let few : version ≤ length seen = omega (arith, c.if-len-version.false, c.if-version-told.false, rest, many) in
    where_ok c.reach.result
    (λ is log goes. is
    ∙ ap (λ (xs : List AcceptedOf). c.args.text.now.items ++ calls_text c.args.told.now.speaker xs)
    (ap (take (version - told)) (c.deref.ensures.value ∙ calls)
    ∙ sym (between_same seen log told version goes less few)))
    c.reach.ensures.text
