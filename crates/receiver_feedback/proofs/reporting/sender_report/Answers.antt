use Rattle.std.proofs.Common.{List, ap, subst, ◌∙◌}
use Rattle.std.proofs.lemmas.Result.{IfOk-weaker}
use Rattle.rtcp_codec.specs.Packet.{Packet}
use Rattle.rtcp_codec.specs.Compound.{IsCompound, written}
use Rattle.rtcp_codec.specs.View.{packets_of}
use Rattle.receiver_feedback.proofs.reporting.sender_report.Goals as goal

pub returns-clause-octets : goal.returns-clause-octets
returns-clause-octets g c =
    let all = ap packets_of c.deref.ensures.value ∙ c.in_ok-packets.ensures.packets in
    IfOk-weaker c.compound_of.result _ _ (λ v e. e ∙ ap written all) c.compound_of.ensures.items

pub returns-clause-compound : goal.returns-clause-compound
returns-clause-compound g c =
    let all = ap packets_of c.deref.ensures.value ∙ c.in_ok-packets.ensures.packets in
    IfOk-weaker c.compound_of.result _ _ (λ v k. subst (λ (ps : List Packet). IsCompound ps v.items) all k)
    c.compound_of.ensures.compound
