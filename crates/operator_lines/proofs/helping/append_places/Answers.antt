use Rattle.std.proofs.Common.{◌++◌, ◌∙◌, List, ℕ, take, get_or, sym, ap, append_assoc, append-nil}
use Rattle.std.proofs.lemmas.List.{take_all}
use Rattle.std.specs.List.{flat_map}
use Rattle.desk_text.proofs.RowLemmas.{one_more}
use Rattle.operator_lines.specs.Help.{place_line}
use Rattle.operator_lines.specs.declared.form_word.FormWord.TheVariants as variants
use Rattle.operator_lines.proofs.helping.append_places.Goals as goal

pub loop-place-init : goal.loop-place-init
loop-place-init c = sym (append-nil c.args.out.now.items)

pub loop-place-preserved : goal.loop-place-preserved
loop-place-preserved c =
    let xs = c.args.places.now in
    let k = c.loop-place.place-index in
    let before = c.args.out.now.items in
    let d = variants.Room in
    let one = place_line (get_or xs k d) in
    c.in_ok-append_place.ensures
    ∙ (ap (λ (o : List ℕ). o ++ one) c.loop-place.invariant
    ∙ (append_assoc before (flat_map place_line (take k xs)) one
    ∙ ap (λ (o : List ℕ). before ++ o) (sym (one_more place_line xs k d c.loop-place-test.true))))

pub returns : goal.returns
returns c =
    let xs = c.args.places.now in
    c.loop-place.invariant
    ∙ ap (λ l. c.args.out.now.items ++ flat_map place_line l)
    (take_all c.loop-place.place-index xs c.loop-place-test.false)
