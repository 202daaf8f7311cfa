use Rattle.std.proofs.Common.{◌≡◌, ◌<◌, ◌^◌, sym, ◌∙◌, [], List, ℕ, Bool, false, refl, replicate, subst}
use Rattle.std.proofs.lemmas.List.{get_or-replicate, length-replicate}
use Rattle.std.proofs.lemmas.Result.{IfOk-weaker}
use Rattle.receiver_feedback.specs.inner.Seen.{Marks}
use Rattle.receiver_feedback.proofs.numbers.unmarked.Goals as goal

none : (n : ℕ) → n ≡ 2 ^ 16 → (marks : List Bool) → marks ≡ replicate n false → Marks marks []
none n is marks e = subst (λ (ms : List Bool). Marks ms []) (sym e) (record {
  all = length-replicate n false ∙ is;
  marked = λ i lt. get_or-replicate n i false false (subst (λ m. i < m) (sym is) lt);
})

pub returns : goal.returns
returns g c =
    IfOk-weaker c.vec.result _ (λ marks. Marks marks.items [])
    (λ marks same. none (2 ^ 16) refl marks.items (same (λ y h. h))) c.vec.ensures.items_if_clones_equal
