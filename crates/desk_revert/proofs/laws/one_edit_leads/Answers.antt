use Rattle.desk_revert.proofs.Exchanging.{any_to_any}
use Rattle.desk_revert.proofs.laws.one_edit_leads.Goals as goal

pub returns : goal.returns
returns c d e g h same = any_to_any d e g h same
