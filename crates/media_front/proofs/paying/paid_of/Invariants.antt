-- What is paid and what is left make the whole, the draft is of the same address, and the capacity suffices for what is
-- left.
use Rattle.std.proofs.Common.{◌≡◌, ◌+◌, ◌≤◌, ◌++◌, length, map, vec_len, vec_capacity}
use Rattle.std.specs.List.{AllByRecursion}
use Rattle.std.specs.Vec.Iter.{into_iter_items}
use Rattle.ingress.specs.Ingested.{datagram_of}
use Rattle.media_front.specs.Paid.{paid_of, after_paying}
use Rattle.media_front.proofs.paying.paid_of.Given as goal

abbrev pub invariant-loop-datagram : goal.invariant-loop-datagram
invariant-loop-datagram l =
    let rest = into_iter_items l.datagram-iterator in
    record {
      paid : map datagram_of l.paid.items ++ paid_of (map datagram_of rest) l.draft.after
          ≡ paid_of (map datagram_of l.fn.datagrams.items) l.initial.draft.after;
      after : after_paying (map datagram_of rest) l.draft.after
          ≡ after_paying (map datagram_of l.fn.datagrams.items) l.initial.draft.after;
      same : l.draft ≡ record l.initial.draft { after = l.draft.after };
      about : AllByRecursion (λ d. d.0 ≡ l.initial.draft.address) (map datagram_of rest);
      fits : vec_len l.paid + length rest ≤ vec_capacity l.paid;
    }
