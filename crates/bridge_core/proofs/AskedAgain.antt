-- What the streams answer to who asks again.
use Rattle.std.proofs.Common.{◌≡◌, ℕ, true, false, cond, List, [], ◌∷◌, ◌++◌, map, Option, Some, None, refl, sym, ap}
use Rattle.std.proofs.Common.{◌∙◌}
use Rattle.std.specs.Prelude.{filter}
use Rattle.std.specs.List.{filter_map}
use Rattle.rtp_codec.specs.declared.address.Address.{Address}
use Rattle.desk_rows.specs.Desk.{Desk}
use Rattle.retransmit.specs.declared.owner.Owner.{Owner}
use Rattle.retransmit.specs.SentPacket.{SentPacket}
use Rattle.retransmit.specs.Window.{window_size, latest, resend_of}
use Rattle.topology.specs.Looking.{member_from}
use Rattle.forward_rewrite.specs.Streams.{StreamOf}
use Rattle.receiver_feedback.specs.Resends.{firsts, resends_to, resends}
use Rattle.media_items.specs.OwnStreams.{is_mine}
use Rattle.media_items.specs.Inputs.{Input, Request}
use Rattle.bridge_core.specs.Sent.{Sent}
use Rattle.bridge_core.specs.Lanes.{Visit, Routed, routed, packets_sent, stream_of, packets, goes, is_lanes}
use Rattle.bridge_core.specs.LaneState.{StreamList, stream_at, AreLeft}
use Rattle.bridge_core.specs.inner.VideoStreams.{Answers}
use Rattle.bridge_core.specs.inner.Visits.{visit_on}
use Rattle.bridge_core.specs.declared.visit.LaneVisit.{LaneVisit}
use Rattle.bridge_core.proofs.Handled.{not_routed}
use Rattle.bridge_core.proofs.OnStreams.{all_or_none}

-- the window of a stream that has begun
abbrev pub window_of : Option StreamOf → List SentPacket
window_of None = []
window_of (Some s) = s.window

-- an empty window has nothing for anybody
nothing_to : (owner : Owner) (ns : List ℕ) → filter_map (λ n. resend_of n owner []) ns ≡ []
nothing_to owner [] = refl
nothing_to owner (n ∷ ns) = nothing_to owner ns

pub nothing_again : (d : Desk) (from : Address) (numbers : List ℕ) → resends d from numbers [] ≡ []
nothing_again d from numbers = by (member_from d from)
  where
    by : (o : Option ℕ) → resends_to o from numbers [] ≡ []
    by None = refl
    by (Some member) = nothing_to (record { member = member; address = from }) (firsts numbers)

module _ {A : Type 0} (at : LaneVisit A) (streams : StreamList) (request : Request) (sent : List Sent) where
  abbrev lane : ℕ
  lane = at.place.lane

  abbrev lanes : ℕ
  lanes = at.place.lanes

  abbrev desk : Desk
  desk = at.rows.now

  abbrev k : ℕ
  k = request.out_ssrc

  abbrev visit : Visit
  visit = visit_on at (Input.nack request)

  -- the streams stay
  stay : (before : List Visit) → AreLeft lane lanes streams before → AreLeft lane lanes streams (before ++ visit ∷ [])
  stay before left j mine = left j mine ∙ ap (stream_of j) (sym (not_routed j before visit refl))

  window_left : (rs : List Routed) (o : Option StreamOf) → o ≡ stream_of k rs
      → window_of o ≡ latest window_size (packets_sent k rs)
  window_left [] o e = ap window_of e
  window_left (r ∷ rs) o e = ap window_of e

  share : (window : List SentPacket)
      → filter (is_lanes lane lanes)
      (map (goes k (Some at.stamp.version)) (resends desk request.from request.numbers window))
      ≡ cond (is_mine lane lanes k)
      (map (goes k (Some at.stamp.version)) (resends desk request.from request.numbers window)) []
  share window =
      all_or_none (is_lanes lane lanes) (is_mine lane lanes k) k (Some at.stamp.version) (λ p. refl)
      (resends desk request.from request.numbers window)

  -- the stream is another lane's
  pub others_answered : is_mine lane lanes k ≡ false → sent ≡ [] → Answers at streams streams (Input.nack request) sent
  others_answered not is before left =
      let window = latest window_size (packets k before) in (
        is
            ∙ sym (ap
            (λ b. cond b (map (goes k (Some at.stamp.version)) (resends desk request.from request.numbers window)) [])
            not)
            ∙ sym (share window),
        stay before left,
      )

  -- the stream is the lane's
  pub mine_answered : is_mine lane lanes k ≡ true
      → sent
      ≡ map (goes k (Some at.stamp.version))
      (resends desk request.from request.numbers (window_of (stream_at k streams)))
      → Answers at streams streams (Input.nack request) sent
  mine_answered mine is before left =
      let window = latest window_size (packets k before) in (
        is
            ∙ ap (λ w. map (goes k (Some at.stamp.version)) (resends desk request.from request.numbers w))
            (window_left (routed k before) (stream_at k streams) (left k mine))
            ∙ sym (ap
            (λ b. cond b (map (goes k (Some at.stamp.version)) (resends desk request.from request.numbers window)) [])
            mine)
            ∙ sym (share window),
        stay before left,
      )
