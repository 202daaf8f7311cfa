use Rattle.std.proofs.Common.{◌∷◌, [], ◌+◌, map, take, get_or, Ok, Err}
use Rattle.desk_text.specs.Text.{word_text}
use Rattle.desk_text.specs.inner.Growing.{buffer_of}
use Rattle.desk_text.specs.Shown.{said}
use Rattle.desk_text.specs.declared.appending.Word.TheVariants as words
use Rattle.desk_text.specs.declared.value.Value.TheVariants as values
use Rattle.desk_text.proofs.GrowLemmas.{grows_then, grows_stop, grows_same, grows_err, joined, line_more, line_rest}
use Rattle.desk_text.proofs.GrowLemmas.{line_all}
use Rattle.desk_text.proofs.appending.append_line.Goals as goal

pub returns-in_err-append_next : goal.returns-in_err-append_next
returns-in_err-append_next g c =
    let ws = c.args.words.now in
    let k = c.loop-word.word-index in
    let first = c.args.first.now in
    let e = c.in_err-append_next.field-0.0 in
    let old = buffer_of c.args.out.now in
    let new = buffer_of c.append_next.new.out in
    let d = words.Value (values.U16 0) in
    let front = joined first (map said (take k ws)) in
    let next = 32 ∷ word_text (said (get_or ws k d)) in
    let rest = line_rest said first ws (k + 1) in
    grows_err old new _ _ e c.from_residual-in_err-append_next.ensures.0
    (grows_stop old new (joined first (map said ws)) (10 ∷ []) e
    (grows_same old new _ _ (Err e) rest.1 (grows_stop old new (joined first (map said (take (k + 1) ws))) rest.0 e
    (grows_same old new _ _ (Err e) (line_more said first ws k d c.loop-word-test.true)
    (grows_then old (buffer_of c.loop-word.out) new front next (Err e) c.loop-word.invariant
    c.in_err-append_next.ensures)))))

pub loop-word-preserved : goal.loop-word-preserved
loop-word-preserved g c =
    let ws = c.args.words.now in
    let k = c.loop-word.word-index in
    let first = c.args.first.now in
    let old = buffer_of c.args.out.now in
    let new = buffer_of c.append_next.new.out in
    let d = words.Value (values.U16 0) in
    grows_same old new _ _ (Ok tt) (line_more said first ws k d c.loop-word-test.true)
    (grows_then old (buffer_of c.loop-word.out) new (joined first (map said (take k ws)))
    (32 ∷ word_text (said (get_or ws k d))) (Ok tt) c.loop-word.invariant c.in_ok-append_next.ensures)

pub returns : goal.returns
returns g c =
    let ws = c.args.words.now in
    let first = c.args.first.now in
    let old = buffer_of c.args.out.now in
    let mid = buffer_of c.loop-word.out in
    let new = buffer_of c.append-2.new.out in
    grows_then old mid new (joined first (map said ws)) (10 ∷ []) c.append-2.result
    (grows_same old mid _ _ (Ok tt) (line_all said first ws c.loop-word.word-index c.loop-word-test.false)
    c.loop-word.invariant)
    c.append-2.ensures
