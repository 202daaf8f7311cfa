use Rattle.std.proofs.Common.{ap, sym, ◌∙◌, ◌++◌, ◌∷◌, [], map, arith}
use Rattle.std.proofs.lemmas.List.{map_push, take_more}
use Rattle.bridge_core.specs.Sent.{sent_of}
use Rattle.bridge_core.specs.LaneState.{stream_at}
use Rattle.bridge_core.specs.inner.Readies.{ReadyOf, Fits, IsNext, ssrc_of, receivers_of}
use Rattle.bridge_core.proofs.Readies.{all-push, sent_pushed}
use Rattle.bridge_core.proofs.preparing.prepare_all.Goals as goal

pub loop-receiver-preserved : goal.loop-receiver-preserved
loop-receiver-preserved g c =
    let one = c.in_ok-one.one in
    let all = c.loop-receiver.ready.items in
    record {
      receivers =
          ap receivers_of c.in_ok-push.ensures.items
          ∙ map_push (λ (r : ReadyOf). r.receiver) all one
          ∙ (λ j. c.loop-receiver.invariant.receivers j ++ c.in_ok-one.ensures.receiver j ∷ [])
          ∙ sym
          (take_more c.args.receivers.now c.loop-receiver.receiver-index _ (omega (arith, c.loop-receiver-test.true)));
      fit =
          rw c.in_ok-push.ensures.items (all-push (λ r. Fits (stream_at (ssrc_of r) c.args.table.now.entries) r) all one
          c.loop-receiver.invariant.fit c.in_ok-one.ensures.fits);
      next =
          rw c.in_ok-push.ensures.items
          (all-push (IsNext c.args.table.now.entries c.args.stamp c.args.frame.now) all one
          c.loop-receiver.invariant.next c.in_ok-one.ensures.next);
      out =
          sent_pushed (map sent_of c.args.out.now.items) _ _ all _ one _ c.packets.result.now
          c.loop-receiver.invariant.out c.in_ok-one.ensures.receiver
          (c.packets.ensures ∙ ap (λ (r : ReadyOf). r.prepared.packets) c.one.view_is) c.in_ok-append_first.ensures
          c.in_ok-push.ensures.items;
    }
