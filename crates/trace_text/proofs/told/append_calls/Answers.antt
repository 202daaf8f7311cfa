use Rattle.std.proofs.Common.{ℕ, List, ◌++◌, take, get_or, sym, ap, append_assoc, ◌∙◌}
use Rattle.std.proofs.lemmas.List.{append-nil, take_all}
use Rattle.std.specs.List.{flat_map}
use Rattle.desk_text.proofs.RowLemmas.{one_more}
use Rattle.call_history.specs.AcceptedCall.{AcceptedOf}
use Rattle.desk_text.specs.HistoryText.{called_line}
use Rattle.trace_text.specs.TraceLines.{marked, calls_text}
use Rattle.trace_text.proofs.told.append_calls.Goals as goal

pub loop-made-init : goal.loop-made-init
loop-made-init g c = sym (append-nil c.args.out.now.items)

pub loop-made-preserved : goal.loop-made-preserved
loop-made-preserved g c =
    let line : AcceptedOf → List ℕ = λ call. marked c.args.speaker (called_line call) in
    let xs = c.args.calls.now in
    let k = c.loop-made.made-index in
    let d = c.made-item.result in
    let out = c.args.out.now.items in
    c.in_ok-append_call.ensures
    ∙ (ap (λ (call : AcceptedOf). c.loop-made.out.items ++ line call) c.made-item.is
    ∙ (ap (λ (o : List ℕ). o ++ line (get_or xs k d)) c.loop-made.invariant
    ∙ (append_assoc out (flat_map line (take k xs)) (line (get_or xs k d))
    ∙ ap (λ (t : List ℕ). out ++ t) (sym (one_more line xs k d c.loop-made-test.true)))))

pub returns : goal.returns
returns g c =
    c.loop-made.invariant
    ∙ ap (λ (xs : List AcceptedOf). c.args.out.now.items ++ calls_text c.args.speaker xs)
    (take_all c.loop-made.made-index c.args.calls.now c.loop-made-test.false)
