-- One more item: what is prepared and committed is what the definitions say.
use Rattle.std.proofs.Common.{◌≡◌, ℕ, true, false, cond, List, [], ◌∷◌, ◌++◌, length, map, drop, Option, Some, None}
use Rattle.std.proofs.Common.{refl, sym, ap, subst, ◌∙◌, append-nil}
use Rattle.std.specs.Prelude.{option_map, filter}
use Rattle.std.specs.List.{flat_map, cons_option, AllByRecursion}
use Rattle.std.proofs.lemmas.List.{map_push, drop_at}
use Rattle.std.proofs.lemmas.List.Elements.{filter_map-append, filter-append}
use Rattle.std.proofs.lemmas.List.Folds.{flat_map-map}
use Rattle.desk_rows.specs.Desk.{Desk}
use Rattle.retransmit.specs.SentPacket.{SentPacket}
use Rattle.topology.specs.declared.receivers.Receiver.{Receiver}
use Rattle.topology.specs.Receivers.{receivers, receiver_on, receiver_at, AreDistinct}
use Rattle.media_items.specs.declared.stamp.Stamp.{Stamp}
use Rattle.media_items.specs.Frame.{SourceFrame}
use Rattle.forward_rewrite.specs.Sending.{sending_of}
use Rattle.forward_rewrite.specs.RoutedList.{packets_of}
use Rattle.forward_rewrite.specs.Streams.{PreparedOf, state_of, committed, SendsNext}
use Rattle.media_items.specs.OwnStreams.{is_mine}
use Rattle.media_items.specs.Inputs.{Input}
use Rattle.sender_feedback.specs.Upstream.{Asker}
use Rattle.bridge_core.specs.Sent.{Sent}
use Rattle.bridge_core.specs.Lanes.{Visit, Routed, routed_to, routed_at, routed, sendings, packets_sent, stream_of}
use Rattle.bridge_core.specs.Lanes.{packets, packets_at, owner_of, goes, is_lanes, sends_at}
use Rattle.bridge_core.specs.declared.visit.LaneVisit.{LaneVisit}
use Rattle.bridge_core.specs.LaneState.{StreamList, stream_at, visit_of, AreLeft}
use Rattle.bridge_core.specs.inner.Readies.{ReadyOf, current, IsNext, AreNext, receivers_of, kept_after, sent_for}
use Rattle.bridge_core.specs.inner.VideoStreams.{Answers}
use Rattle.bridge_core.specs.inner.Visits.{asker_of}
use Rattle.bridge_core.proofs.Readies.{ready_at, receiver_at-receivers_of, receiver_at-mine, kept_by}
use Rattle.bridge_core.proofs.Readies.{kept_after-distinct, AreDistinct-filter, all-at, ready_at-ssrc, each_found}
use Rattle.bridge_core.proofs.Readies.{all_mine, readies_mine}

-- one more frame of a routed list
stream_more : (rs : List Routed) (r : Routed) (p : PreparedOf)
    → (let cur = current (stream_of r.slot.out_ssrc rs) r.slot in SendsNext cur (committed cur p) r.sending p.packets)
    → (stream_of r.slot.out_ssrc (rs ++ r ∷ []) ≡ Some (committed (current (stream_of r.slot.out_ssrc rs) r.slot) p))
    × (packets_sent r.slot.out_ssrc (rs ++ r ∷ []) ≡ packets_sent r.slot.out_ssrc rs ++ p.packets)
stream_more [] r p sends =
    let h = sends r.slot.first_seq r.slot.first_ts [] refl in
    (ap Some (sym h.1), h.0)
stream_more (x ∷ xs) r p sends =
    let k = r.slot.out_ssrc in
    let h = sends x.slot.first_seq x.slot.first_ts (sendings (x ∷ xs)) refl in
    let longer = map_push (λ (y : Routed). y.sending) (x ∷ xs) r in (
      ap (λ fs. Some (state_of k x.slot.first_seq x.slot.first_ts fs)) longer ∙ ap Some (sym h.1),
      ap (λ fs. packets_of k x.slot.first_seq x.slot.first_ts fs) longer ∙ h.0,
    )

pub routed-more : (k : ℕ) (before : List Visit) (v : Visit)
    → routed k (before ++ v ∷ []) ≡ routed k before ++ cons_option (routed_at k v) []
routed-more k before v = filter_map-append (routed_at k) before (v ∷ [])

-- an item that brings a stream nothing leaves its list as it is
pub not_routed : (k : ℕ) (before : List Visit) (v : Visit) → routed_at k v ≡ None
    → routed k (before ++ v ∷ []) ≡ routed k before
not_routed k before v none =
    routed-more k before v ∙ ap (λ o. routed k before ++ cons_option o []) none ∙ append-nil (routed k before)

-- a frame, by its stamp and the desk
abbrev pub frame_visit : Stamp → Desk → SourceFrame → Visit
frame_visit stamp desk f = visit_of stamp.version stamp.item desk (Input.frame f)

-- the item, at the key of what is prepared
at_ready : (streams : StreamList) (before : List Visit) (stamp : Stamp) (desk : Desk) (f : SourceFrame) (r : ReadyOf)
    → stream_at r.receiver.slot.out_ssrc streams
    ≡ stream_of r.receiver.slot.out_ssrc (routed r.receiver.slot.out_ssrc before)
    → IsNext streams stamp f r
    → routed_at r.receiver.slot.out_ssrc (frame_visit stamp desk f)
    ≡ Some (routed_to (frame_visit stamp desk f) f r.receiver)
    → (stream_of r.receiver.slot.out_ssrc (routed r.receiver.slot.out_ssrc (before ++ frame_visit stamp desk f ∷ []))
    ≡ Some (committed (current (stream_at r.receiver.slot.out_ssrc streams) r.receiver.slot) r.prepared))
    × (packets r.receiver.slot.out_ssrc (before ++ frame_visit stamp desk f ∷ [])
    ≡ packets r.receiver.slot.out_ssrc before ++ r.prepared.packets)
at_ready streams before stamp desk f r h next at =
    let v = frame_visit stamp desk f in
    let k = r.receiver.slot.out_ssrc in
    let e = routed-more k before v ∙ ap (λ o. routed k before ++ cons_option o []) at in
    let m = stream_more (routed k before) (routed_to v f r.receiver) r.prepared
    (subst
    (λ o.
    SendsNext (current o r.receiver.slot) (committed (current o r.receiver.slot) r.prepared)
    (sending_of f stamp (owner_of r.receiver)) r.prepared.packets)
    h next) in (
      ap (stream_of k) e ∙ m.0 ∙ ap (λ o. Some (committed (current o r.receiver.slot) r.prepared)) (sym h),
      ap (packets_sent k) e ∙ m.1,
    )

-- what is ready is for the lane's receivers of the frame, of whom no two are one, and each of them is found
record IsFor (lane lanes : ℕ) (streams : StreamList) (stamp : Stamp) (desk : Desk) (f : SourceFrame)
    (rs : List ReadyOf) : Type 0 where
  pub apart : AreDistinct (receivers_of rs)
  pub all : receivers_of rs ≡ filter (λ r. is_mine lane lanes r.slot.out_ssrc) (receivers desk f.source f.address)
  pub found : (k : ℕ) → receiver_at k (receivers desk f.source f.address) ≡ receiver_on desk f.source f.address k
  pub next : AreNext streams stamp f rs

abbrev packets_by : Option ReadyOf → List SentPacket
packets_by None = []
packets_by (Some r) = r.prepared.packets

module _ (lane lanes : ℕ) (streams : StreamList) (stamp : Stamp) (desk : Desk) (f : SourceFrame) (rs : List ReadyOf)
    (is : IsFor lane lanes streams stamp desk f rs) (before : List Visit) where
  abbrev visit : Visit
  visit = frame_visit stamp desk f

  routed_at-ready : (k : ℕ) → is_mine lane lanes k ≡ true
      → routed_at k visit ≡ option_map (λ r. routed_to visit f r.receiver) (ready_at k rs)
  routed_at-ready k mine =
      ap (option_map (routed_to visit f))
      (sym (is.found k)
      ∙ receiver_at-mine lane lanes k (receivers desk f.source f.address) mine
      ∙ ap (receiver_at k) (sym is.all)
      ∙ receiver_at-receivers_of k rs)
      ∙ joined (ready_at k rs)
    where
      joined : (o : Option ReadyOf)
          → option_map (routed_to visit f) (option_map (λ (r : ReadyOf). r.receiver) o)
          ≡ option_map (λ (r : ReadyOf). routed_to visit f r.receiver) o
      joined None = refl
      joined (Some r) = refl

  -- the item, at any key of the lane
  at_key : (k : ℕ) → is_mine lane lanes k ≡ true → stream_at k streams ≡ stream_of k (routed k before)
      → (o : Option ReadyOf) → ready_at k rs ≡ o
      → (stream_of k (routed k (before ++ visit ∷ [])) ≡ kept_by o (stream_at k streams))
      × (packets k (before ++ visit ∷ []) ≡ packets k before ++ packets_by o)
  at_key k mine h None found =
      let e =
      not_routed k before visit
      (routed_at-ready k mine ∙ ap (option_map (λ (r : ReadyOf). routed_to visit f r.receiver)) found) in
      (ap (stream_of k) e ∙ sym h, ap (packets_sent k) e ∙ sym (append-nil (packets k before)))
  at_key k mine h (Some r) found =
      let key = ready_at-ssrc k rs r found in
      let at = routed_at-ready k mine ∙ ap (option_map (λ (r : ReadyOf). routed_to visit f r.receiver)) found in
      subst
      (λ m.
      (stream_of m (routed m (before ++ visit ∷ []))
      ≡ Some (committed (current (stream_at m streams) r.receiver.slot) r.prepared))
      × (packets m (before ++ visit ∷ []) ≡ packets m before ++ r.prepared.packets))
      key
      (at_ready streams before stamp desk f r
      (subst (λ m. stream_at m streams ≡ stream_of m (routed m before)) (sym key) h)
      (all-at (IsNext streams stamp f) k rs r is.next found)
      (subst (λ m. routed_at m visit ≡ Some (routed_to visit f r.receiver)) (sym key) at))

flat_map-alike : {X Y : Type 0} (f g : X → List Y) (xs : List X) → AllByRecursion (λ x. f x ≡ g x) xs
    → flat_map f xs ≡ flat_map g xs
flat_map-alike f g [] h = refl
flat_map-alike f g (x ∷ xs) h = ap (λ ys. ys ++ flat_map f xs) h.0 ∙ ap (λ ys. g x ++ ys) (flat_map-alike f g xs h.1)

both_each : {X : Type 0} {P Q R : X → Type 0} → ((x : X) → P x → Q x → R x) → (xs : List X) → AllByRecursion P xs
    → AllByRecursion Q xs → AllByRecursion R xs
both_each f [] p q = tt
both_each f (x ∷ xs) p q = (f x p.0 q.0, both_each f xs p.1 q.1)

-- a stream's packets are a lane's all together or not at all
pub share_of_one : (lane lanes k : ℕ) (again : Option ℕ) (ps : List SentPacket)
    → filter (is_lanes lane lanes) (map (goes k again) ps) ≡ cond (is_mine lane lanes k) (map (goes k again) ps) []
share_of_one lane lanes k again [] =
    elim (is_mine lane lanes k) as (λ b. ◌≡◌ {A = List Sent} [] (cond b [] [])) [ true ↦ refl | false ↦ refl ]
share_of_one lane lanes k again (p ∷ ps) =
    ap (λ es. cond (is_mine lane lanes k) (goes k again p ∷ es) es) (share_of_one lane lanes k again ps)
    ∙ (elim (is_mine lane lanes k) as (λ b.
    cond b (goes k again p ∷ cond b (map (goes k again) ps) []) (cond b (map (goes k again) ps) [])
    ≡ cond b (goes k again p ∷ map (goes k again) ps) [])
    [ true ↦ refl | false ↦ refl ])

-- a lane's share of what goes to receivers is what goes to its receivers
share_of_all : (lane lanes : ℕ) (packets : Receiver → List SentPacket) (rs : List Receiver)
    → filter (is_lanes lane lanes) (flat_map (λ r. map (goes r.slot.out_ssrc None) (packets r)) rs)
    ≡ flat_map (λ r. map (goes r.slot.out_ssrc None) (packets r)) (filter (λ r. is_mine lane lanes r.slot.out_ssrc) rs)
share_of_all lane lanes packets [] = refl
share_of_all lane lanes packets (r ∷ rs) =
    let G = λ (r : Receiver). map (goes r.slot.out_ssrc None) (packets r) in
    let left = filter (λ (x : Receiver). is_mine lane lanes x.slot.out_ssrc) rs in
    filter-append (is_lanes lane lanes) (G r) (flat_map G rs)
    ∙ ap (λ es. es ++ filter (is_lanes lane lanes) (flat_map G rs))
    (share_of_one lane lanes r.slot.out_ssrc None (packets r))
    ∙ ap (λ es. cond (is_mine lane lanes r.slot.out_ssrc) (G r) [] ++ es) (share_of_all lane lanes packets rs)
    ∙ (elim (is_mine lane lanes r.slot.out_ssrc)
    as (λ b. cond b (G r) [] ++ flat_map G left ≡ flat_map G (cond b (r ∷ left) left)) [ true ↦ refl | false ↦ refl ])

module _ (who : Asker) (lane lanes : ℕ) (streams : StreamList) (stamp : Stamp) (desk : Desk) (f : SourceFrame)
    (rs : List ReadyOf) (is : IsFor lane lanes streams stamp desk f rs) (before : List Visit)
    (left : AreLeft lane lanes streams before) where
  -- what is sent for a frame
  sent_alike : sent_for rs ≡ sends_at who lane lanes before (frame_visit stamp desk f)
  sent_alike =
      let v = frame_visit stamp desk f in
      let packets_for = λ (r : Receiver). packets_at r.slot.out_ssrc before v in
      let G = λ (r : Receiver). map (goes r.slot.out_ssrc None) (packets_for r) in
      let one : (r : ReadyOf) → ready_at r.receiver.slot.out_ssrc rs ≡ Some r
      → is_mine lane lanes r.receiver.slot.out_ssrc ≡ true
      → map (goes r.receiver.slot.out_ssrc None) r.prepared.packets ≡ G r.receiver =
      λ r found mine.
      let k = r.receiver.slot.out_ssrc in
      let more = (at_key lane lanes streams stamp desk f rs is before k mine (left k mine) (Some r) found).1 in
      ap (map (goes k None)) (sym (ap (drop (length (packets k before))) more
      ∙ drop_at (packets k before) r.prepared.packets (length (packets k before)) refl)) in
      flat_map-alike (λ (r : ReadyOf). map (goes r.receiver.slot.out_ssrc None) r.prepared.packets)
      (λ (r : ReadyOf). G r.receiver) rs
      (both_each one rs (each_found rs is.apart) (readies_mine lane lanes rs (subst
      (AllByRecursion (λ (r : Receiver). is_mine lane lanes r.slot.out_ssrc ≡ true)) (sym is.all)
      (all_mine lane lanes (receivers desk f.source f.address)))))
      ∙ sym (flat_map-map G (λ (r : ReadyOf). r.receiver) rs)
      ∙ ap (flat_map G) is.all
      ∙ sym (share_of_all lane lanes packets_for (receivers desk f.source f.address))

-- the streams answer a frame
pub frame_answered : {A : Type 0}
    → (at : LaneVisit A) (old new : StreamList) (f : SourceFrame) (rs : List ReadyOf) (sent : List Sent)
    → AreDistinct (receivers at.rows.now f.source f.address)
    → ((k : ℕ)
    → receiver_at k (receivers at.rows.now f.source f.address) ≡ receiver_on at.rows.now f.source f.address k)
    → receivers_of rs
    ≡ filter (λ r. is_mine at.place.lane at.place.lanes r.slot.out_ssrc) (receivers at.rows.now f.source f.address)
    → AreNext old at.stamp f rs
    → ((k : ℕ) → stream_at k new ≡ kept_after k rs (stream_at k old)) → sent ≡ sent_for rs
    → Answers at old new (Input.frame f) sent
frame_answered at old new f rs sent distinct found same next streams are before left =
    let lane = at.place.lane in
    let lanes = at.place.lanes in
    let desk = at.rows.now in
    let is : IsFor lane lanes old at.stamp desk f rs = record {
      apart = subst AreDistinct (sym same) (AreDistinct-filter _ (receivers desk f.source f.address) distinct);
      all = same;
      found = found;
      next = next;
    } in (
      are ∙ sent_alike (asker_of at) lane lanes old at.stamp desk f rs is before left,
      λ k mine.
          streams k
          ∙ kept_after-distinct k rs (stream_at k old) is.apart
          ∙ sym ((at_key lane lanes old at.stamp desk f rs is before k mine (left k mine) (ready_at k rs) refl).0),
    )
