use Rattle.std.proofs.Common.{◌≡◌, ◌∙◌, List, ℕ, length, map, ap, subst}
use Rattle.std.specs.List.{list_all}
use Rattle.std.specs.declared.alloc.Global.{Global}
use Rattle.std.specs.declared.vec.Vec.{Vec}
use Rattle.rtp_codec.specs.declared.address.Address.{Address}
use Rattle.media_items.specs.Inputs.{Input, input_of, is_sized}
use Rattle.ingress.specs.Ingested.{Ingested, ingested_of, datagram_of}
use Rattle.ingress.specs.declared.received.Received.{Received}
use Rattle.media_front.specs.FedLanes.{AllAreGiven}
use Rattle.media_front.specs.Tries.{WereTried}
use Rattle.rate_limiter.specs.declared.bucket.Bucket.{Bucket}
use Rattle.rate_limiter.specs.Drafts.{DraftOf}
use Rattle.media_front.specs.Paid.{paid_of}
use Rattle.media_front.specs.Granted.{granted_of, after_asking}
use Rattle.media_front.specs.LeftOut.{after_limiting}
use Rattle.media_front.specs.Fronts.{FrontOf, HasHandled, once_refilled, once_paid}
use Rattle.media_front.specs.inner.Plans.{IsPlan}
use Rattle.media_front.specs.inner.Shares.{input_shared}
use Rattle.media_front.proofs.front.MediaFront.handle.Goals as goal

pub hand_out_all-requires : goal.hand_out_all-requires
hand_out_all-requires g c =
    record {
      sized =
          ap (λ (is : List Input). list_all is_sized is)
          (ap (map input_shared) c.deref-2.ensures.value ∙ c.in_ok-shared.ensures)
          ∙ c.in_ok-planned.planned.ingest.sized;
    }

pub returns-clause-handled : goal.returns-clause-handled
returns-clause-handled g c arrival of =
    let here = c.self.inside in
    let ingest = c.args.ingest in
    let plan = c.in_ok-planned.planned in
    let is : IsPlan here.pli_cost
    (record ingest.received { from = arrival.from; moment = arrival.moment; octets = length arrival.octets })
    (ingested_of ingest) here.limiter here.limited plan =
    subst (λ (r : Received Global). IsPlan here.pli_cost r (ingested_of ingest) here.limiter here.limited plan) of
    c.in_ok-planned.ensures in
    let new : FrontOf g.row.P.Denot g.row.S.Denot =
    record {
      ingress = here.ingress;
      feed = c.hand_out_all.new.self;
      limiter = c.put_back.new.self;
      limited = plan.limited;
      ticks = here.ticks;
      reports = here.reports;
    } in
    let before = g.W.Wire.attempts c.args.wire.now in
    let after = g.W.Wire.attempts c.try_all.new.wire in
    let once : List Bucket = once_refilled arrival (ingested_of ingest) here.limiter in
    let sent : List Bucket = once_paid arrival (ingested_of ingest) here.limiter in
    let up : map datagram_of plan.ingest.up.items ≡ paid_of (map datagram_of ingest.up.items) once =
    ap (λ (i : Ingested). i.up) is.ingest in
    let given : map input_of plan.ingest.items.items
    ≡ granted_of here.pli_cost arrival.moment (map input_of ingest.items.items) sent =
    ap (λ (i : Ingested). i.items) is.ingest in
    subst (λ (f : FrontOf g.row.P.Denot g.row.S.Denot). HasHandled arrival (ingested_of ingest) f new before after)
    c.self.view_is
    (record {
      up = subst (λ (l : List (Address × List ℕ)). WereTried l before after) up
          (subst (λ (xs : List (Address × Vec ℕ Global)). WereTried (map datagram_of xs) before after)
          c.deref.ensures.value c.try_all.ensures);
      items =
          subst
          (λ (n : ℕ).
          AllAreGiven (granted_of n arrival.moment (map input_of ingest.items.items) sent) here.feed
          c.hand_out_all.new.self)
          c.self.invariant
          (subst (λ (is : List Input). AllAreGiven is here.feed c.hand_out_all.new.self)
          (ap (map input_shared) c.deref-2.ensures.value ∙ (c.in_ok-shared.ensures ∙ given)) c.hand_out_all.ensures);
      limiter = c.in_ok-put_back.ensures.after ∙ ap (λ (d : DraftOf). d.after) is.draft
          ∙ ap (λ (n : ℕ). after_asking n arrival.moment (map input_of ingest.items.items) sent) c.self.invariant;
      limited = is.limited
          ∙ ap (λ (n : ℕ). after_limiting n arrival.moment (map input_of ingest.items.items) sent here.limited)
          c.self.invariant;
    })
