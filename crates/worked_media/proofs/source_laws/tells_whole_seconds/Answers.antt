use Rattle.std.proofs.Common.{◌++◌, ◌∷◌, [], ◌+◌, ◌*◌, ◌^◌, None, Some, ap, ◌∙◌}
use Rattle.std.proofs.lemmas.Option.{IfSome_then}
use Rattle.std.proofs.lemmas.List.Sums.{fold-append}
use Rattle.rtcp_codec.specs.declared.report.ReportBlock.{ReportBlock}
use Rattle.source_valid.specs.declared.heard.Heard.{Heard}
use Rattle.source_valid.specs.Histories.{Sender, Unheard, standing_after, heard_after}
use Rattle.source_valid.specs.Reports.{dlsr_of}
use Rattle.worked_media.proofs.source_laws.tells_whole_seconds.Goals as goal

pub returns : goal.returns
returns c = IfSome_then c.block.result c.block.ensures (λ b told before s given valid.
    let h : Heard = record { ntp = 5; moment = c.from-from.result } in
    let block =
    told (before ++ Sender h ∷ []) s (c.sender_report.ensures before given)
    (fold-append standing_after Unheard before (Sender h ∷ []) ∙ valid) in
    ap (λ (b : ReportBlock). b.dlsr) block
    ∙ ap (λ h. dlsr_of h (c.from-from.result + c.from.result * 10 ^ 9))
    (fold-append heard_after None before (Sender h ∷ []))
    ∙ ap (λ n. dlsr_of (Some h) (c.from-from.result + n * 10 ^ 9)) c.from.ensures
    ∙ c.delays.ensures h c.args.seconds c.ranges.seconds.fits)
