use Rattle.std.proofs.Common.{sym, ◌∙◌, ap, length}
use Rattle.published_desk.proofs.BookSteps.{adds_moves}
use Rattle.published_desk.proofs.notice.Notice.add.Goals as goal

pub compare_exchange-found-requires : goal.compare_exchange-found-requires
compare_exchange-found-requires c =
    let seen = c.again-seen.ensures in
    let offer = c.plain-offer.ensures in
    let pen = c.no_pen-pen.ensures in
    let head = c.requires.head in
    let book = ap (λ s. s.book) seen ∙ (ap (λ n. n.publisher) c.self.view_is ∙ sym (ap (λ w. w.book) head)) in (
      ap (λ w. w.tracked) head,
      book,
      pen.0 ∙ book,
      offer.0,
      rw (ap (λ w. w.key) head, pen.1, offer.1, offer.3) (adds_moves c.again-seen.result.log c.args.edits.now
          c.self.inside.version (ap (λ s. length s.log) seen ∙ sym c.self.invariant)),
    )
