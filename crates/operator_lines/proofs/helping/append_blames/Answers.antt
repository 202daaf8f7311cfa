use Rattle.std.proofs.Common.{◌++◌, ◌∙◌, List, ℕ, take, get_or, sym, ap, append_assoc, append-nil}
use Rattle.std.proofs.lemmas.List.{take_all}
use Rattle.std.specs.List.{flat_map}
use Rattle.desk_text.proofs.RowLemmas.{one_more}
use Rattle.operator_lines.specs.Help.{blame_line}
use Rattle.desk_edit.specs.declared.refusal.Refusal.{Refusal}
use Rattle.desk_edit.specs.declared.refusal.Refusal.TheVariants as variants
use Rattle.operator_lines.proofs.helping.append_blames.Goals as goal

pub loop-blame-init : goal.loop-blame-init
loop-blame-init c = sym (append-nil c.args.out.now.items)

pub loop-blame-preserved : goal.loop-blame-preserved
loop-blame-preserved c =
    let xs = c.args.blames.now in
    let k = c.loop-blame.blame-index in
    let before = c.args.out.now.items in
    let d : Refusal × ℕ = (variants.Exists, 0) in
    let one = blame_line (get_or xs k d) in
    c.in_ok-append_blame.ensures
    ∙ (ap (λ (o : List ℕ). o ++ one) c.loop-blame.invariant
    ∙ (append_assoc before (flat_map blame_line (take k xs)) one
    ∙ ap (λ (o : List ℕ). before ++ o) (sym (one_more blame_line xs k d c.loop-blame-test.true))))

pub returns : goal.returns
returns c =
    let xs = c.args.blames.now in
    c.loop-blame.invariant
    ∙ ap (λ l. c.args.out.now.items ++ flat_map blame_line l)
    (take_all c.loop-blame.blame-index xs c.loop-blame-test.false)
