use Rattle.std.proofs.Common.{◌++◌, List, ℕ, [], ◌∷◌, map, ap, sym, ◌∙◌}
use Rattle.std.proofs.lemmas.List.{map-append}
use Rattle.rtcp_codec.specs.Compound.{written}
use Rattle.receiver_feedback.specs.SenderReports.{sender_packets}
use Rattle.bridge_core.specs.Sent.{sent_of}
use Rattle.bridge_core.specs.Lanes.{controls, tells}
use Rattle.bridge_core.specs.inner.Visits.{asker_of}
use Rattle.bridge_core.specs.inner.Control.{report_visit}
use Rattle.bridge_core.proofs.reporting.Reporting.tell.Goals as goal

pub returns : goal.returns
returns g c =
    let due = c.args.self.now in
    let packet = λ (octets : List ℕ). controls (report_visit due) c.args.ssrc c.args.to.now.address octets ∷ [] in
    let report = λ (cname : List ℕ). written (sender_packets c.in-Some.counts due.moment cname) in
    ap (map sent_of) c.in_ok-push.ensures.items
    ∙ map-append sent_of c.args.out.now.items _
    ∙ ap (λ es. map sent_of c.args.out.now.items ++ es)
    (ap packet (c.in_ok-bytes.ensures.octets ∙ ap report c.deref.ensures)
    ∙ sym (ap (tells (asker_of due.visit) (report_visit due) due.moment c.args.to.now c.args.ssrc) c.in-Some.is))
