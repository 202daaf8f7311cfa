-- What report blocks tell in the examples.
use Rattle.std.specs.Prelude.{ℕ, pos}
use Rattle.rtcp_codec.specs.declared.report.ReportBlock.{ReportBlock}

-- one packet of four is lost, the greatest being 104, and no timestamp or report came; this is the fraction since the
-- last block
abbrev pub block : ℕ → ReportBlock
block fraction = record { ssrc = 7; fraction = fraction; lost = pos 1; highest = 104; jitter = 0; lsr = 0; dlsr = 0 }
