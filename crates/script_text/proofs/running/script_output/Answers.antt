use Rattle.std.proofs.Common.{◌≡◌, ◌∙◌, ap, ◌++◌, List, ℕ, [], subst, Some, Err, Ok, refl}
use Rattle.script_text.specs.declared.fault.RunFault.{RunFault}
use Rattle.script_text.specs.declared.fault.RunFault.TheVariants as errors
use Rattle.script_text.specs.Output.{output_of, RunEnds}
use Rattle.script_text.proofs.RunLemmas.{same_fault, fed_fails, fed_ends}
use Rattle.script_text.proofs.running.script_output.Goals as goal

pub returns-in-Err-clause-fault : goal.returns-in-Err-clause-fault
returns-in-Err-clause-fault g c = λ decoding line word fault heard e.
    let script = c.args.script.now in
    let before = Some c.new-out.result.items in
    let now = Some c.feed.new.writer.items in
    let is : c.in-Err.fault ≡ errors.Script line word fault = same_fault _ _ _ refl e in
    let ends =
    fed_fails decoding script heard _ c.feed.new.self before now c.in-Err.fault c.in-Ok.ensures.opening
    c.in-Err.ensures.step in
    (subst (λ (f : RunFault). RunEnds decoding script (Some []) before now (Err f)) is ends).0

pub returns-in-Err-finish-clause-fault : goal.returns-in-Err-finish-clause-fault
returns-in-Err-finish-clause-fault g c = λ decoding line word fault heard e.
    let script = c.args.script.now in
    let before = Some c.new-out.result.items in
    let mid = Some c.feed.new.writer.items in
    let now = Some c.finish.new.writer.items in
    let is : c.in-Err-finish.fault ≡ errors.Script line word fault = same_fault _ _ _ refl e in
    let ends =
    fed_ends decoding script heard _ c.feed.new.self before mid now (Err c.in-Err-finish.fault) c.in-Ok.ensures.opening
    c.in_default-feed.ensures.step c.in-Err-finish.ensures.end in
    (subst (λ (f : RunFault). RunEnds decoding script (Some []) before now (Err f)) is ends).0

pub returns-clause-ok : goal.returns-clause-ok
returns-clause-ok g c = λ decoding heard.
    let before = Some c.new-out.result.items in
    let mid = Some c.feed.new.writer.items in
    let now = Some c.finish.new.writer.items in
    let ends =
    fed_ends decoding c.args.script.now heard _ c.feed.new.self before mid now (Ok tt) c.in-Ok.ensures.opening
    c.in_default-feed.ensures.step c.in_default-finish.ensures.end in
    (ends.1, ends.2 ∙ ap (λ (t : List ℕ). t ++ (output_of decoding c.args.script.now).text) c.new-out.ensures.items)
