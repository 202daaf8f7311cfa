use Rattle.std.proofs.Common.{◌++◌, ◌∙◌, List, ℕ, take, get_or, sym, ap, append_assoc, append-nil}
use Rattle.std.proofs.lemmas.List.{take_all}
use Rattle.std.specs.List.{flat_map}
use Rattle.desk_text.proofs.RowLemmas.{one_more}
use Rattle.operator_lines.specs.Help.{form_line}
use Rattle.desk_text.specs.declared.name.Name.TheVariants as names
use Rattle.operator_lines.specs.declared.topic.Topic.TheVariants as variants
use Rattle.operator_lines.proofs.helping.append_forms.Goals as goal

pub loop-topic-init : goal.loop-topic-init
loop-topic-init c = sym (append-nil c.args.out.now.items)

pub loop-topic-preserved : goal.loop-topic-preserved
loop-topic-preserved c =
    let xs = c.args.topics.now in
    let k = c.loop-topic.topic-index in
    let before = c.args.out.now.items in
    let d = variants.Command names.AddRoom in
    let one = form_line (get_or xs k d) in
    c.in_ok-append_form.ensures
    ∙ (ap (λ (o : List ℕ). o ++ one) c.loop-topic.invariant
    ∙ (append_assoc before (flat_map form_line (take k xs)) one
    ∙ ap (λ (o : List ℕ). before ++ o) (sym (one_more form_line xs k d c.loop-topic-test.true))))

pub returns : goal.returns
returns c =
    let xs = c.args.topics.now in
    c.loop-topic.invariant
    ∙ ap (λ l. c.args.out.now.items ++ flat_map form_line l)
    (take_all c.loop-topic.topic-index xs c.loop-topic-test.false)
