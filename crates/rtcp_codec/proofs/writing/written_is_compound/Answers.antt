use Rattle.std.proofs.Common.{true}
use Rattle.rtcp_codec.specs.Compound.{written}
use Rattle.rtcp_codec.proofs.Compounds.{reads_compound}
use Rattle.rtcp_codec.proofs.RoundTrip.{compound_written}
use Rattle.rtcp_codec.proofs.writing.written_is_compound.Goals as goal

pub returns : goal.returns
returns c = λ ps h f. reads_compound ps (written ps) (compound_written true ps (λ e. h.report) h.each f)
