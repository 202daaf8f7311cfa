use Rattle.std.proofs.Common.{map}
use Rattle.bridge_core.specs.Sent.{sent_of}
use Rattle.bridge_core.proofs.PartsLaws.{ok_by_report}
use Rattle.bridge_core.proofs.parts.LaneParts.report.Goals as goal

pub returns : goal.returns
returns g c =
    ok_by_report c.all.result (λ sent. map sent_of sent.items) c.args.visit.now c.args.self.now c.args.moment
    c.all.ensures
