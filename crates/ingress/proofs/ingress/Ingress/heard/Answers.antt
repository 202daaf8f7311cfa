use Rattle.std.proofs.Common.{◌≡◌, ◌∙◌, false, nat_lt, ap, sym, subst, length, map, []}
use Rattle.std.proofs.lemmas.List.{length-map}
use Rattle.std.specs.List.{list_all}
use Rattle.rtcp_codec.specs.View.{packet_of, packets_of}
use Rattle.ingress.specs.declared.outcome.Outcome.TheVariants.{Rtcp}
use Rattle.media_items.specs.Inputs.{input_of, is_sized}
use Rattle.ingress.specs.Ingested.{datagram_of}
use Rattle.ingress.specs.inner.Holding.{IngressOf, Holds}
use Rattle.ingress.proofs.Answered.{ingested}
use Rattle.ingress.proofs.Sized.{sized_asks}
use Rattle.ingress.proofs.AboutLemmas.{about_asks}
use Rattle.ingress.proofs.ReceivedLemmas.{none_began}
use Rattle.ingress.proofs.ingress.Ingress.heard.Goals as goal

pub invariant_of-result : goal.invariant_of-result
invariant_of-result g c =
    record {
      sized =
          ap (list_all is_sized) c.in_ok-items.ensures ∙ sized_asks c.args.from.now (packets_of c.args.packets.now);
    }

pub returns-clause-moves : goal.returns-clause-moves
returns-clause-moves g c = λ member voice s right asker knows.
    let packets = c.args.packets.now in
    let items = map input_of c.in_ok-items.items.items in (
      ap (λ n. ingested (Rtcp n) (map datagram_of c.new.result.items) items) (sym (length-map packets packet_of))
          ∙ ap (λ up. ingested (Rtcp (length (packets_of packets))) (map datagram_of up) items) c.new.ensures.items
          ∙ ap (λ x. ingested (Rtcp (length (packets_of packets))) [] x) c.in_ok-items.ensures,
      record {
        holds =
            c.hear_all.ensures s.known
            (subst (λ (i : IngressOf). Holds i.entries s.known) (sym c.self.view_is) knows.holds);
        epochs = ap (λ (i : IngressOf). i.epochs) c.self.view_is ∙ knows.epochs;
      },
    )

pub returns-clause-about : goal.returns-clause-about
returns-clause-about g c =
    let packets = c.args.packets.now in
    let items = map input_of c.in_ok-items.items.items in
    about_asks c.args.from.now (Rtcp (length packets)) items (packets_of packets) _
    (ap (λ up. ingested (Rtcp (length packets)) (map datagram_of up) items) c.new.ensures.items) c.in_ok-items.ensures

pub returns-clause-begins : goal.returns-clause-begins
returns-clause-begins g c =
    subst (λ (i : IngressOf). false ≡ nat_lt i.epochs c.self.inside.epochs) c.self.view_is
    (none_began c.self.inside.epochs)
