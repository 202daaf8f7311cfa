use Rattle.std.proofs.Common.{◌≡◌, ℕ, List, [], ◌∷◌, ◌++◌, All, length, Some, subst, sym, ap, ◌∙◌, arith}
use Rattle.std.specs.Prelude.{slice_get}
use Rattle.std.proofs.lemmas.Grind.{common_steps}
use Rattle.std.proofs.lemmas.List.Elements.{All-push}
use Rattle.media_workers.specs.LaneRuns.{LaneNow}
use Rattle.media_workers.specs.Bridges.{IsNew}
use Rattle.x_bench.proofs.Places.{one_more}
use Rattle.x_bench.proofs.lanes.all_lanes.Goals as goal

pub loop-lane-preserved : goal.loop-lane-preserved
loop-lane-preserved g c =
    let k = c.loop-lane.invariant in
    let who = c.args.settings.now in
    let next = c.in-Some.next in
    let old : List LaneNow = c.loop-lane.lanes.items in
    let more : c.push_reserved.new.self.items ≡ old ++ next ∷ [] = c.push_reserved.ensures.items in
    let last : IsNew (record { ssrc = who.bridge_ssrc; cname = who.cname }) c.args.count (length old) next =
    subst (λ n. IsNew (record { ssrc = who.bridge_ssrc; cname = who.cname }) c.args.count n next) (sym k.count)
    c.in-Some.ensures.new in
    record {
      new =
          subst
          (λ (ls : List LaneNow).
          (place : ℕ) (one : LaneNow) → slice_get ls place ≡ Some one
          → IsNew (record { ssrc = who.bridge_ssrc; cname = who.cname }) c.args.count place one)
          (sym {A = List LaneNow} more)
          (one_more
          (λ (n : ℕ) (one : LaneNow). IsNew (record { ssrc = who.bridge_ssrc; cname = who.cname }) c.args.count n one)
          old next k.new last);
      publisher =
          subst (All (λ (one : LaneNow). one.reader.publisher ≡ g.N.PublisherName.publisher))
          (sym {A = List LaneNow} more)
          (All-push (λ (one : LaneNow). one.reader.publisher ≡ g.N.PublisherName.publisher) old next k.publisher
          c.in-Some.ensures.publisher);
      count = ap length more ∙ grind (arith, common_steps, k.count);
      capacity = grind (arith, common_steps, k.capacity, c.push_reserved.ensures.capacity);
      readers = c.in-Some.ensures.readers;
    }

pub returns-clause-new : goal.returns-clause-new
returns-clause-new g c =
    let k = c.loop-lane.invariant in
    let who = c.args.settings.now in
    let all : c.args.count ≡ length c.loop-lane.lanes.items =
    grind (arith, common_steps, k.count, c.loop-lane-test.false, c.loop-lane.auto.lane-end) in (
      record { ssrc = who.bridge_ssrc; cname = who.cname },
      λ place lane at.
          subst (λ n. IsNew (record { ssrc = who.bridge_ssrc; cname = who.cname }) n place lane) all
          (k.new place lane at),
    )
