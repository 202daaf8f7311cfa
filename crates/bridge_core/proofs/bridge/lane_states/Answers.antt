use Rattle.std.proofs.Common.{ℕ, List, ap, ◌∙◌, sym, length, subst, ◌+◌}
use Rattle.std.proofs.lemmas.List.{length_push}
use Rattle.sender_feedback.specs.Upstream.{Asker}
use Rattle.bridge_core.specs.Sound.{AreFresh}
use Rattle.bridge_core.proofs.StepLaws.{AreFresh-push}
use Rattle.bridge_core.proofs.bridge.lane_states.Goals as goal

pub loop-lane-preserved : goal.loop-lane-preserved
loop-lane-preserved g c =
    let inv = c.loop-lane.invariant in
    let place = c.in_ok-state.ensures.place in
    let asker = λ (ssrc : ℕ) (cname : List ℕ). let a : Asker = record { ssrc = ssrc; cname = cname } in a in
    let name =
    ap (λ n. asker n c.in_ok-try_clone.field-0.cname) c.in_ok-try_clone.ensures.0
    ∙ ap (asker c.args.settings.now.bridge_ssrc) c.in_ok-try_clone.ensures.1 in
    record {
      fresh =
          subst
          (AreFresh c.args.lanes (record { ssrc = c.args.settings.now.bridge_ssrc; cname = c.args.settings.now.cname }))
          (sym c.in_ok-push.ensures.items) (AreFresh-push c.args.lanes _ c.loop-lane.states.items c.in_ok-state.state
          inv.fresh (place.0 ∙ sym inv.count) place.1 (c.in_ok-state.ensures.who ∙ name)
          c.in_ok-state.ensures.nothing_handled);
      count =
          ap length c.in_ok-push.ensures.items
          ∙ length_push c.loop-lane.states.items c.in_ok-state.state
          ∙ ap (λ n. n + 1) inv.count;
    }
