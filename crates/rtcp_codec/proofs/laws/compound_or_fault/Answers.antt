use Rattle.rtcp_codec.proofs.Decided.{compound_or_fault as decided}
use Rattle.rtcp_codec.proofs.laws.compound_or_fault.Goals as goal

pub returns : goal.returns
returns c = decided
