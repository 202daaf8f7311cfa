use Rattle.std.proofs.Common.{◌≡◌, ◌++◌, ◌∷◌, [], ℕ, List, ap, sym, ◌∙◌}
use Rattle.std.proofs.lemmas.List.{append_assoc}
use Rattle.std.proofs.lemmas.Option.{IfSome_then}
use Rattle.std.specs.List.{fold}
use Rattle.rtcp_codec.specs.declared.report.ReportBlock.{ReportBlock}
use Rattle.source_valid.specs.Histories.{Number, Standing, Valid, after_number, standing_of}
use Rattle.source_valid.specs.Reports.{lost_of}
use Rattle.source_valid.specs.Stretches.{begun, following}
use Rattle.worked_media.proofs.Stood.{begun-expected, begun-highest, standing-numbers}
use Rattle.worked_media.proofs.source_laws.tells_of_the_second_far_number_alone.Goals as goal

pub returns : goal.returns
returns c = IfSome_then c.block.result c.block.ensures (λ b told before s given valid far near is.
    let one = (c.update.ensures.judged before given).1 in
    let two = (c.update-2.ensures.judged (before ++ Number c.args.far ∷ []) one).1 in
    let numbers : List ℕ = c.args.far ∷ following c.args.far ∷ [] in
    let stands : standing_of ((before ++ Number c.args.far ∷ []) ++ Number c.args.next ∷ [])
    ≡ Valid (begun (following c.args.far)) =
    ap standing_of (append_assoc before (Number c.args.far ∷ []) (Number c.args.next ∷ []))
    ∙ ap (λ n. standing_of (before ++ Number c.args.far ∷ Number n ∷ [])) is
    ∙ standing-numbers before numbers
    ∙ ap (λ (st : Standing). fold after_number st numbers) valid
    ∙ c.restarts.ensures s c.args.far far near in
    let block =
    told ((before ++ Number c.args.far ∷ []) ++ Number c.args.next ∷ []) (begun (following c.args.far)) two stands in (
      ap (λ (b : ReportBlock). b.highest) block ∙ begun-highest c.args.far ∙ sym is,
      ap (λ (b : ReportBlock). b.lost) block ∙ ap (λ e. lost_of e 1) (begun-expected (following c.args.far)),
    ))
