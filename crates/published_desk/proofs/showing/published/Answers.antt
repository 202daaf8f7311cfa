use Rattle.std.proofs.Common.{◌≡◌, ◌++◌, ◌∷◌, [], drop, rules, sym, ap, ◌∙◌, fold}
use Rattle.published_desk.specs.Published.{after_list}
use Rattle.published_desk.specs.inner.Page.{Page}
use Rattle.published_desk.proofs.ReaderSteps.{shows}
use Rattle.published_desk.proofs.showing.published.Goals as goal

pub publish_as-next-requires : goal.publish_as-next-requires
publish_as-next-requires g c next is =
    let w = c.append.new.self in
    let now = w.desk.shown.value in
    let edits = c.args.edits.now in
    let shown : now ≡ c.args.writer.desk.shown.value = search rules in
    let waits : drop w.behind w.log.items ≡ c.args.edition ∷ [] = search rules in
    let leads : next ≡ c.args.edition = is ∙ ap (fold (λ (x y : Page). y) now) waits in
    shows after_list _ _ now next edits
    (ap (λ (p : Page). p.notice.publisher) leads
    ∙ (c.requires.publisher ∙ ap (λ (p : Page). p.notice.publisher) (sym shown)))
    (ap (λ (p : Page). p.notice.lists) leads
    ∙ (c.requires.lists ∙ ap (λ (p : Page). p.notice.lists ++ edits ∷ []) (sym shown)))
    (ap (λ (p : Page). p.desk) leads
    ∙ (ap (λ (p : Page). p.desk) c.requires.page ∙ ap (λ (p : Page). after_list p.desk edits) (sym shown)))
