use Rattle.std.proofs.Common.{ap, ◌∙◌}
use Rattle.std.proofs.lemmas.Option.{IfSome_then}
use Rattle.rtcp_codec.specs.declared.report.ReportBlock.{ReportBlock}
use Rattle.source_valid.specs.Reports.{lost_of}
use Rattle.source_valid.specs.Stretches.{received_of}
use Rattle.worked_media.proofs.source_laws.tells_all_that_was_lost.Goals as goal

pub returns : goal.returns
returns c = IfSome_then c.block.result c.block.ensures (λ b told before s n given valid lost few.
    ap (λ (b : ReportBlock). b.lost) (told before s given valid)
    ∙ ap (λ e. lost_of e (received_of s.accepted)) lost
    ∙ c.losses.ensures.lost (received_of s.accepted) n few)
