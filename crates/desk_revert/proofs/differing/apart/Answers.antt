use Rattle.std.specs.Prelude.{◌++◌, ◌∷◌}
use Rattle.desk_rows.specs.laws.Words.{[], sym, ap, ◌∙◌, append_assoc, and_parts, list_all, precedes, in_order}
use Rattle.desk_rows.specs.laws.Words.{without_rows}
use Rattle.std.proofs.lemmas.List.{nil_from_length}
use Rattle.desk_revert.proofs.Merging.{all_stay, one_row, second_first, first_first}
use Rattle.desk_revert.proofs.differing.apart.Goals as goal

pub loop-old-preserved-then-is_same : goal.loop-old-preserved-then-is_same
loop-old-preserved-then-is_same g c =
    let was = c.loop-old.invariant in
    let x = c.in-Some.old.now in
    let xs = c.in-Some.old_later.now in
    let y = c.in-Some-split_first.new.now in
    let ys = c.in-Some-split_first.new_later.now in
    let left = c.in-Some.ensures.cases.0 in
    let next = c.in-Some-split_first.ensures.cases.0 in
    let h = ap in_order (sym left) ∙ was.before in
    let k = ap in_order (sym next) ∙ was.behind in
    let both = one_row x y xs ys h k (sym c.is_same.ensures ∙ c.if-is_same.true) in
    record {
      gone =
          ap (λ rs. c.loop-old.gone.items ++ rs) (sym ((λ i. without_rows (next i) (left i)) ∙ both.0)) ∙ was.gone;
      come =
          ap (λ rs. c.loop-old.come.items ++ rs) (sym ((λ i. without_rows (left i) (next i)) ∙ both.1)) ∙ was.come;
      before = (and_parts (list_all (precedes x) xs) (in_order xs) h).1;
      behind = (and_parts (list_all (precedes y) ys) (in_order ys) k).1;
    }

pub loop-old-preserved-then-precedes : goal.loop-old-preserved-then-precedes
loop-old-preserved-then-precedes g c =
    let was = c.loop-old.invariant in
    let x = c.in-Some.old.now in
    let xs = c.in-Some.old_later.now in
    let y = c.in-Some-split_first.new.now in
    let ys = c.in-Some-split_first.new_later.now in
    let olds = c.loop-old.olds.now in
    let come = c.loop-old.come.items in
    let left = c.in-Some.ensures.cases.0 in
    let next = c.in-Some-split_first.ensures.cases.0 in
    let h = ap in_order (sym left) ∙ was.before in
    let k = ap in_order (sym next) ∙ was.behind in
    let both = second_first x y xs ys h (sym c.precedes.ensures ∙ c.if-precedes.true) in
    record {
      gone =
          ap (λ rs. c.loop-old.gone.items ++ rs)
          (ap (without_rows ys) left ∙ sym ((λ i. without_rows (next i) (left i)) ∙ both.0))
          ∙ was.gone;
      come =
          ap (λ rs. rs ++ without_rows olds ys) c.in_ok-push-in-Some-split_first.ensures.items
          ∙ append_assoc come (y ∷ []) (without_rows olds ys)
          ∙ ap (λ rs. come ++ rs)
          (ap (λ rs. y ∷ without_rows rs ys) left ∙ sym ((λ i. without_rows (left i) (next i)) ∙ both.1))
          ∙ was.come;
      before = was.before;
      behind = (and_parts (list_all (precedes y) ys) (in_order ys) k).1;
    }

pub loop-old-preserved : goal.loop-old-preserved
loop-old-preserved g c =
    let was = c.loop-old.invariant in
    let x = c.in-Some.old.now in
    let xs = c.in-Some.old_later.now in
    let y = c.in-Some-split_first.new.now in
    let ys = c.in-Some-split_first.new_later.now in
    let news = c.loop-old.news.now in
    let gone = c.loop-old.gone.items in
    let left = c.in-Some.ensures.cases.0 in
    let next = c.in-Some-split_first.ensures.cases.0 in
    let h = ap in_order (sym left) ∙ was.before in
    let k = ap in_order (sym next) ∙ was.behind in
    let both =
    first_first x y xs ys k (sym c.is_same.ensures ∙ c.if-is_same.false) (sym c.precedes.ensures ∙ c.if-precedes.false)
    in
    record {
      gone =
          ap (λ rs. rs ++ without_rows news xs) c.in_ok-push-in-Some-split_first-2.ensures.items
          ∙ append_assoc gone (x ∷ []) (without_rows news xs)
          ∙ ap (λ rs. gone ++ rs)
          (ap (λ rs. x ∷ without_rows rs xs) next ∙ sym ((λ i. without_rows (next i) (left i)) ∙ both.0))
          ∙ was.gone;
      come =
          ap (λ rs. c.loop-old.come.items ++ rs)
          (ap (without_rows xs) next ∙ sym ((λ i. without_rows (left i) (next i)) ∙ both.1))
          ∙ was.come;
      before = (and_parts (list_all (precedes x) xs) (in_order xs) h).1;
      behind = was.behind;
    }

pub returns-clause-come : goal.returns-clause-come
returns-clause-come g c =
    let come = c.loop-old.come.items in
    let news = c.loop-old.news.now in
    let left = nil_from_length c.loop-old.olds.now c.in_default.ensures.cases in
    c.in_ok-extend_from_slice.ensures.items
    ∙ ap (λ rs. come ++ rs) (sym (ap (λ l. without_rows l news) left ∙ all_stay news))
    ∙ c.loop-old.invariant.come
