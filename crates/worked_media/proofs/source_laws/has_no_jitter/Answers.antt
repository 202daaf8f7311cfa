use Rattle.std.proofs.Common.{◌++◌, ◌/◌, ap, ◌∙◌}
use Rattle.std.proofs.lemmas.Option.{IfSome_then}
use Rattle.std.specs.List.{fold}
use Rattle.rtcp_codec.specs.declared.report.ReportBlock.{ReportBlock}
use Rattle.source_valid.specs.declared.timing.Timing.{Timing}
use Rattle.source_valid.specs.Histories.{timing_after}
use Rattle.worked_media.proofs.Stood.{arrivals, standing-arrivals, timing-arrivals}
use Rattle.worked_media.proofs.source_laws.has_no_jitter.Goals as goal

pub returns : goal.returns
returns c = IfSome_then c.block.result c.block.ensures (λ b told before s transit arrived valid untimed even given.
    let block = told (before ++ arrivals arrived) s given (standing-arrivals before arrived ∙ valid) in
    let timing = timing-arrivals before arrived ∙ ap (λ (t : Timing). fold timing_after t (arrivals arrived)) untimed in
    ap (λ (b : ReportBlock). b.jitter) block
    ∙ ap (λ (t : Timing). t.jitter / 16) timing
    ∙ ap (λ n. n / 16) (c.steady.ensures transit arrived even))
