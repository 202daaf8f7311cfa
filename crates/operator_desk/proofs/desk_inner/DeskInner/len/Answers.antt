use Rattle.std.proofs.Common.{◌≡◌, ◌∙◌, length, sym, ap, rules}
use Rattle.operator_desk.specs.inner.DeskInner.{InnerOf}
use Rattle.operator_desk.proofs.TokenLemmas.{length-shown}
use Rattle.operator_desk.proofs.desk_inner.DeskInner.len.Goals as goal

pub returns : goal.returns
returns g c =
    let entries = c.self.inside.entries.items in
    let count : c.len.result ≡ length entries = search rules in
    count ∙ (sym (length-shown entries) ∙ ap (λ (h : InnerOf). length h.log) c.self.view_is)
