use Rattle.std.proofs.Common.{◌≡◌, ◌∙◌, ap, sym, subst, List, [], ◌∷◌, ◌++◌}
use Rattle.std.specs.List.{AllByRecursion}
use Rattle.rtcp_codec.specs.declared.report.ReportBlock.{ReportBlock}
use Rattle.rtcp_codec.specs.Report.{FitsLost}
use Rattle.desk_rows.specs.declared.row.Source.{Source}
use Rattle.desk_rows.specs.declared.row.Media.TheVariants.{Audio}
use Rattle.ingress.proofs.BlocksFrom.{blocks_more, blocks_same, all_fit}
use Rattle.ingress.proofs.known.Known.blocks_of.Goals.{in-Some+in_ok-push, in_default}
use Rattle.ingress.proofs.known.Known.blocks_of.Goals as goal

abbrev nobodys : Source
nobodys = record { ssrc = 0; member = 0; media = Audio }

pub loop-source-preserved : goal.loop-source-preserved
loop-source-preserved g c = elim c.match-block_from.branch [
  | in-Some+in_ok-push w ↦
      let b = w.in-Some.block in
      let items : c.match-block_from.blocks.items ≡ c.loop-source.blocks.items ++ b ∷ [] =
      ap (λ v. v.items) w.blocks-is ∙ w.in_ok-push.ensures.items in (
        λ known h. items ∙ ap (λ (bs : List ReportBlock). bs ++ b ∷ []) (c.loop-source.invariant.0 known h)
            ∙ sym (blocks_more c.args.moment known c.args.member.now c.args.sources.now c.loop-source.source-index
            nobodys b c.loop-source-test.true (sym w.in-Some.is ∙ c.block_from.ensures.block known h)),
        subst (AllByRecursion (λ x. FitsLost x.lost)) (sym items)
            (all_fit c.loop-source.blocks.items b c.loop-source.invariant.1 (w.in-Some.ensures.fits)),
      )
  | in_default w ↦
      let items : c.match-block_from.blocks.items ≡ c.loop-source.blocks.items = ap (λ v. v.items) w.blocks-is in (
        λ known h. items ∙ c.loop-source.invariant.0 known h
            ∙ sym (blocks_same c.args.moment known c.args.member.now c.args.sources.now c.loop-source.source-index
            nobodys c.loop-source-test.true (sym w.in_default.is ∙ c.block_from.ensures.block known h)),
        subst (AllByRecursion (λ x. FitsLost x.lost)) (sym items) c.loop-source.invariant.1,
      )
]
