use Rattle.std.proofs.Common.{◌≡◌, ◌∙◌, map, length, ap, sym, arith}
use Rattle.std.specs.Prelude.{option_map, option_to_list}
use Rattle.std.specs.Vec.Iter.{into_iter_items}
use Rattle.rate_limiter.specs.Drafts.{DraftOf}
use Rattle.ingress.specs.Ingested.{datagram_of}
use Rattle.media_front.proofs.DraftLemmas.{still, next_one}
use Rattle.media_front.proofs.PaidLemmas.{paid_step, paying_step}
use Rattle.media_front.proofs.paying.paid_of.Goals as goal

pub paid_one-one-requires : goal.paid_one-one-requires
paid_one-one-requires c =
    let k = c.loop-datagram.invariant in
    let next = c.in-Some.ensures.steps in
    record {
      about =
          (next_one (λ d. d.0 ≡ c.args.draft.now.address) datagram_of
          (into_iter_items c.loop-datagram.datagram-iterator)
          (into_iter_items c.next.new.self) c.in-Some.datagram next.0 k.about).0
          ∙ sym (ap (λ (d : DraftOf). d.address) k.same);
    }

pub loop-datagram-preserved : goal.loop-datagram-preserved
loop-datagram-preserved c =
    let k = c.loop-datagram.invariant in
    let next = c.in-Some.ensures.steps in
    let left = into_iter_items c.loop-datagram.datagram-iterator in
    let rest = into_iter_items c.next.new.self in
    let one = c.paid_one-one in
    let after = ap (λ (d : DraftOf). d.after) one.ensures.after in
    record {
      paid =
          paid_step datagram_of (map datagram_of c.loop-datagram.paid.items) (map datagram_of c.put.new.datagrams.items)
          (option_to_list (option_map datagram_of one.result)) _ left rest c.in-Some.datagram
          c.loop-datagram.draft.after one.new.draft.after next.0 c.put.ensures.items one.ensures.paid after k.paid;
      after =
          paying_step datagram_of left rest c.in-Some.datagram c.loop-datagram.draft.after one.new.draft.after _ next.0
          after k.after;
      same = still c.args.draft.now c.loop-datagram.draft one.new.draft _ k.same one.ensures.after;
      about =
          (next_one (λ d. d.0 ≡ c.args.draft.now.address) datagram_of left rest c.in-Some.datagram next.0 k.about).1;
      fits = omega (arith, k.fits, ap length next.0, c.put.ensures.len, c.put.ensures.capacity);
    }
