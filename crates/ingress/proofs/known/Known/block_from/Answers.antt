use Rattle.std.proofs.Common.{◌≡◌, ◌∙◌, ap, sym, Some, None}
use Rattle.std.specs.Option.{option_copied}
use Rattle.ingress.specs.declared.known.OriginKey.{OriginKey}
use Rattle.ingress.specs.inner.Holding.{key_of, kept_at}
use Rattle.ingress.proofs.BlocksFrom.{origin, from_kept, from_none}
use Rattle.ingress.proofs.known.Known.block_from.Goals as goal

-- src/reporting.rt:52:5
pub returns-in-None-clause-block : goal.returns-in-None-clause-block
returns-in-None-clause-block g c = λ known h.
    let m = c.args.member.now in
    let s = c.args.source.now in
    let at : kept_at (key_of (origin m s)) c.args.self.now ≡ None =
    ap (λ (k : OriginKey). kept_at k c.args.self.now) (sym c.key_of.ensures)
    ∙ sym c.at.ensures
    ∙ ap option_copied c.in-None.is in
    from_none c.args.moment c.args.self.now known m s c.if-source-member.false h at

-- src/reporting.rt:52:5
pub returns-in-Some-clause-block : goal.returns-in-Some-clause-block
returns-in-Some-clause-block g c = λ known h.
    let m = c.args.member.now in
    let s = c.args.source.now in
    let at : kept_at (key_of (origin m s)) c.args.self.now ≡ Some c.in-Some.kept.now =
    ap (λ (k : OriginKey). kept_at k c.args.self.now) (sym c.key_of.ensures)
    ∙ sym c.at.ensures
    ∙ ap option_copied c.in-Some.is in
    from_kept c.args.moment c.args.self.now known m s c.in-Some.kept.now c.block.result c.if-source-member.false h at
    c.block.ensures.block
