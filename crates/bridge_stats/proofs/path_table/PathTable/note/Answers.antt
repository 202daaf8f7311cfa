use Rattle.std.proofs.Common.{◌≡◌, ◌∙◌, sym, ap, subst}
use Rattle.std.specs.List.{FoldsTo}
use Rattle.rtcp_codec.specs.View.{packets_of}
use Rattle.ingress.specs.declared.outcome_class.Disposition.{Disposition}
use Rattle.ingress.specs.declared.outcome_class.Disposition.TheVariants.{Compound}
use Rattle.ingress.specs.declared.outcome_class.OutcomeClass.{OutcomeClass}
use Rattle.ingress.specs.Outcomes.{disposition_of}
use Rattle.bridge_stats.specs.Paths.{IsPacketNoted, IsNotedIf}
use Rattle.bridge_stats.proofs.OutcomeLemmas.{compound_is}
use Rattle.bridge_stats.proofs.path_table.PathTable.note.Goals as goal

pub returns-in-Compound : goal.returns-in-Compound
returns-in-Compound g c = λ octets reports.
    let r = c.args.received.now in
    let old = c.args.self.now in
    let new = c.note_packets.new.self in
    let is : disposition_of r.outcome ≡ Compound c.in-Compound.packets =
    sym (ap (λ (o : OutcomeClass). o.disposition) c.class.ensures) ∙ c.in-Compound.is in
    subst (λ (d : Disposition). IsNotedIf d c.args.rows.now r.from r.moment octets old new) (sym is) (
      packets_of r.packets.items,
      reports c.in-Compound.packets (compound_is r.outcome c.in-Compound.packets is),
      subst (λ ps. FoldsTo (IsPacketNoted c.args.rows.now r.from r.moment) old (packets_of ps) new)
          c.deref.ensures.value c.note_packets.ensures,
    )
