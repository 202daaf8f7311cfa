-- What is done with the receive side's answers, and waits of many sources.
use Rattle.std.proofs.Common.{◌≡◌, ◌<◌, ◌+◌, ℕ, List, ◌++◌, length, map, take, drop, filter, get_or, Option, ap, sym}
use Rattle.std.proofs.Common.{subst}
use Rattle.std.proofs.Common.{◌∙◌, Result, Ok, Err, OnErr}
use Rattle.std.specs.Prelude.{filter_map, option_to_list}
use Rattle.desk_rows.specs.declared.row.Row.{Row}
use Rattle.desk_rows.specs.declared.key.Kind.TheVariants as kinds
use Rattle.desk_rows.specs.Kinds.{is_of}
use Rattle.desk_rows.specs.Desk.{Desk}
use Rattle.topology.specs.Looking.{source_in}
use Rattle.topology.proofs.KindRows.{source_rows}
use Rattle.media_items.specs.Inputs.{input_of}
use Rattle.ingress.specs.declared.received.Received.{Received}
use Rattle.ingress.specs.declared.ingest.WaitAnswer.{WaitAnswer}
use Rattle.ingress.specs.Ingested.{Ingested, datagram_of}
use Rattle.ingress.specs.Sources.{Origin}
use Rattle.sender_feedback.specs.Upstream.{Asker}
use Rattle.rate_limiter.specs.declared.bucket.Bucket.{Bucket}
use Rattle.udp_wire.specs.Attempts.{Attempt}
use Rattle.media_front.specs.FedLanes.{FedLane, AllAreGiven}
use Rattle.media_front.specs.Tries.{WereTried}
use Rattle.media_front.specs.Paid.{paid_of}
use Rattle.media_front.specs.Prices.{pli_octets}
use Rattle.media_front.specs.Granted.{granted_of}
use Rattle.media_front.specs.LeftOut.{after_limiting}
use Rattle.media_front.specs.Fronts.{FrontOf, Arrival, HasHandled, once_refilled, once_paid, once_asked}
use Rattle.media_front.specs.Waits.{HasWaitedOnce, HaveWaited, HaveWaitedInPart, video_origin, video_origins}
use Rattle.media_front.specs.inner.Origins.{origin_in}
use Rattle.media_front.proofs.WaitLists.{folds_both, read_of_part, read_more, read_parts, deeper}

-- what holds in any case holds on an error
pub on_err : {A B C : Type 0} (r : Result A B) → C → OnErr r C
on_err (Ok a) k = tt {0}
on_err (Err b) k = k

-- the answer to a wait, with the outcome of this
abbrev pub with_answer : {A : Type 0} → Received A → WaitAnswer A → Ingested
with_answer r a = record { outcome = r.outcome; up = map datagram_of a.up.items; items = map input_of a.items.items }

-- what was done for a front is done for one with the same buckets, the same lanes, the same counts and the same name
pub handled_at : {P S : Type 0} (arrival : Arrival) (ingested : Ingested) (mid old new : FrontOf P S)
    (before after : Option (List Attempt))
    → mid.limiter ≡ old.limiter → mid.feed ≡ old.feed → mid.limited ≡ old.limited
    → mid.ingress.asker ≡ old.ingress.asker
    → HasHandled arrival ingested mid new before after → HasHandled arrival ingested old new before after
handled_at {P} {S} arrival ingested mid old new before after limiter feed limited asker h = record {
  up =
      subst (λ (a : List Bucket). WereTried (paid_of ingested.up (once_refilled arrival ingested a)) before after)
      limiter
      h.up;
  items =
      subst
      (λ (f : List (FedLane P S)).
      AllAreGiven
      (granted_of (pli_octets old.ingress.asker) arrival.moment ingested.items (once_paid arrival ingested old.limiter))
      f
      new.feed)
      feed
      (subst
      (λ (a : List Bucket).
      AllAreGiven
      (granted_of (pli_octets old.ingress.asker) arrival.moment ingested.items (once_paid arrival ingested a)) mid.feed
      new.feed)
      limiter
      (subst
      (λ (who : Asker).
      AllAreGiven (granted_of (pli_octets who) arrival.moment ingested.items (once_paid arrival ingested mid.limiter))
      mid.feed new.feed)
      asker h.items));
  limiter = h.limiter
      ∙ (ap (λ (who : Asker). once_asked (pli_octets who) arrival ingested mid.limiter) asker
      ∙ ap (once_asked (pli_octets old.ingress.asker) arrival ingested) limiter);
  limited = h.limited
      ∙ (ap
      (λ (who : Asker).
      after_limiting (pli_octets who) arrival.moment ingested.items (once_paid arrival ingested mid.limiter)
      mid.limited)
      asker
      ∙ (ap
      (λ (a : List Bucket).
      after_limiting (pli_octets old.ingress.asker) arrival.moment ingested.items (once_paid arrival ingested a)
      mid.limited)
      limiter
      ∙ ap
      (after_limiting (pli_octets old.ingress.asker) arrival.moment ingested.items
      (once_paid arrival ingested old.limiter))
      limited));
}

-- the origins of the video sources, row by row
pub origins_by_rows : (desk : Desk)
    → filter_map (origin_in desk) (filter (is_of kinds.Source) desk.others) ≡ video_origins desk
origins_by_rows desk =
    sym (read_of_part source_in (video_origin desk) (filter (is_of kinds.Source) desk.others))
    ∙ ap (filter_map (video_origin desk)) (source_rows desk)

-- one row more, of rows that hold it
pub waits_more : {P S : Type 0} (desk : Desk) (now : ℕ) (f : Row → Option Origin) (rows : List Row) (i : ℕ) (d : Row)
    (a b c : FrontOf P S) (wa wb wc : Option (List Attempt))
    → i < length rows → HaveWaited desk now (filter_map f (take i rows)) a b wa wb
    → HaveWaited desk now (option_to_list (f (get_or rows i d))) b c wb wc
    → HaveWaited desk now (filter_map f (take (i + 1) rows)) a c wa wc
waits_more desk now f rows i d a b c wa wb wc low far one =
    subst (λ (os : List Origin). HaveWaited desk now os a c wa wc) (sym (read_more f rows i d low))
    (folds_both (HasWaitedOnce desk now) (a, wa) (filter_map f (take i rows)) (b, wb)
    (option_to_list (f (get_or rows i d))) (c, wc) far one)

-- a row at which memory ran out
pub waits_in_part : {P S : Type 0} (desk : Desk) (now : ℕ) (f : Row → Option Origin) (rows : List Row) (i : ℕ) (d : Row)
    (a b c : FrontOf P S) (wa wb wc : Option (List Attempt))
    → i < length rows → HaveWaited desk now (filter_map f (take i rows)) a b wa wb
    → HaveWaitedInPart desk now (option_to_list (f (get_or rows i d))) b c wb wc
    → HaveWaitedInPart desk now (filter_map f rows) a c wa wc
waits_in_part desk now f rows i d a b c wa wb wc low far part =
    let front : List Origin = filter_map f (take i rows) in
    let back : List Origin = filter_map f (drop (i + 1) rows) in
    record {
      first = front ++ part.first;
      next = part.next;
      rest = part.rest ++ back;
      order =
          deeper front (option_to_list (f (get_or rows i d))) part.first part.rest back part.next (filter_map f rows)
          (read_parts f rows i d low) part.order;
      behind = part.behind;
      waited = folds_both (HasWaitedOnce desk now) (a, wa) front (b, wb) part.first (part.behind, wc) far part.waited;
      unfed = part.unfed;
      ingress = part.ingress;
    }
