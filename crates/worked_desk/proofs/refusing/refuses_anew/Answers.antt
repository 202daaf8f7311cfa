use Rattle.std.proofs.Common.{refl}
use Rattle.desk_edit.specs.Refusals.{refused}
use Rattle.worked_desk.proofs.Computed.{answers}
use Rattle.worked_desk.specs.DeskCases.{other_source}
use Rattle.worked_desk.specs.RefusalCases.{subscribing_anew}
use Rattle.worked_desk.proofs.refusing.refuses_anew.Goals as goal

pub returns : goal.returns
unfolding refused
returns c = answers refused other_source subscribing_anew refl c.requires c.refusal.ensures
