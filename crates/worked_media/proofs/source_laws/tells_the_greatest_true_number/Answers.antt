use Rattle.std.proofs.Common.{◌++◌, ◌%◌, ◌^◌, ℕ, List, map, ap, ◌∙◌}
use Rattle.std.proofs.lemmas.Option.{IfSome_then}
use Rattle.rtcp_codec.specs.declared.report.ReportBlock.{ReportBlock}
use Rattle.source_valid.specs.Histories.{Number, Standing, after_number}
use Rattle.std.specs.List.{fold}
use Rattle.source_valid.specs.laws.TrueNumbers.{with_numbers}
use Rattle.worked_media.proofs.Stood.{standing-numbers}
use Rattle.worked_media.proofs.source_laws.tells_the_greatest_true_number.Goals as goal

pub returns : goal.returns
returns c = IfSome_then c.block.result c.block.ensures (λ b told before s xs valid near given.
    let numbers : List ℕ = map (λ x. x % 2 ^ 16) xs in
    let stands =
    standing-numbers before numbers
    ∙ ap (λ (st : Standing). fold after_number st numbers) valid
    ∙ c.true_numbers.ensures s xs near in
    ap (λ (b : ReportBlock). b.highest) (told (before ++ map Number numbers) (with_numbers s xs) given stands))
