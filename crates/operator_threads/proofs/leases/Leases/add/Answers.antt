use Rattle.std.proofs.Common.{sym, ◌∙◌, ap, length}
use Rattle.operator_threads.proofs.LeaseSteps.{adds_moves}
use Rattle.operator_threads.proofs.leases.Leases.add.Goals as goal

pub compare_exchange-found-requires : goal.compare_exchange-found-requires
compare_exchange-found-requires c =
    let seen = c.again-seen.ensures in
    let offer = c.plain-offer.ensures in
    let pen = c.no_pen-pen.ensures in
    let head = c.requires.head in
    let book = ap (λ s. s.book) seen ∙ (ap (λ n. n.book) c.self.view_is ∙ sym (ap (λ w. w.book) head)) in (
      ap (λ w. w.tracked) head,
      book,
      pen.0 ∙ book,
      offer.0,
      rw (ap (λ w. w.key) head, pen.1, offer.1, offer.3) (adds_moves c.again-seen.result.log c.args.lease.now
          c.self.inside.count (ap (λ s. length s.log) seen ∙ sym c.self.invariant)),
    )
