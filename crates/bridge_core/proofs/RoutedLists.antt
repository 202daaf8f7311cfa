-- What is sent on a video stream for the first time is its routed list.
use Rattle.std.proofs.Common.{◌≡◌, ℕ, ◌+◌, ◌%◌, true, false, cond, List, [], ◌∷◌, ◌++◌, length, map, drop, Option, Some}
use Rattle.std.proofs.Common.{None, refl, sym, ap, subst, ◌∙◌, arith, append_assoc, append-nil, inl, inr}
use Rattle.std.specs.List.{cons_option, AllByRecursion}
use Rattle.std.proofs.lemmas.Bool.{cases_eq}
use Rattle.std.proofs.lemmas.Bool.Decides.{nat_tests}
use Rattle.std.proofs.lemmas.List.{drop_at, map_push, map-append}
use Rattle.desk_rows.specs.Desk.{Desk, good}
use Rattle.retransmit.specs.SentPacket.{SentPacket}
use Rattle.retransmit.specs.Window.{AreInARow, GoOn}
use Rattle.media_items.specs.Frame.{SourceFrame}
use Rattle.forward_rewrite.specs.Sending.{Sending}
use Rattle.forward_rewrite.specs.RoutedList.{part_of, numbered, packets_of}
use Rattle.media_items.specs.OwnStreams.{is_mine}
use Rattle.media_items.specs.Inputs.{Input}
use Rattle.sender_feedback.specs.Upstream.{Asker}
use Rattle.bridge_core.specs.Sent.{Sent}
use Rattle.bridge_core.specs.Lanes.{Visit, Routed, routed, routed_at, sendings, packets_sent, packets, packets_at, goes}
use Rattle.bridge_core.specs.Steps.{Step, visits, visit_after, along, desk_of, version_of, items_given}
use Rattle.bridge_core.specs.Named.{Name, StreamKind, firsts_at, firsts}
use Rattle.bridge_core.specs.Headline.{numbers, FollowOn, HaveNoGap, IsGood}
use Rattle.bridge_core.proofs.Handled.{routed-more, not_routed}
use Rattle.bridge_core.proofs.OnStreams.{AreFound, nothing_at, on_of_lane}
use Rattle.bridge_core.proofs.StepLaws.{desk_of-publish, desk_of-item, visits-publish, visits-mine, visits-other}

-- the packets of a frame that is sent, numbered in a row and under one timestamp
abbrev pub frame_packets : ℕ → ℕ → ℕ → Sending → List SentPacket
frame_packets ssrc number ts s =
    numbered ssrc number (map (part_of record { sending = s; ts = ts }) s.frame.frame.packets)

-- one more frame goes out whole, behind those that were sent before
abbrev pub Grows : Type 0
Grows = (ssrc first_seq first_ts : ℕ) (before : List Sending) (next : Sending)
    → (number : ℕ) × (ts : ℕ)
    × (packets_of ssrc first_seq first_ts (before ++ next ∷ [])
    ≡ packets_of ssrc first_seq first_ts before ++ frame_packets ssrc number ts next)

-- what an item adds comes behind the others
sent_more : Grows → (k : ℕ) (rs : List Routed) (r : Routed)
    → (number : ℕ) × (ts : ℕ)
    × (packets_sent k (rs ++ r ∷ []) ≡ packets_sent k rs ++ frame_packets k number ts r.sending)
sent_more grows k [] r = grows k r.slot.first_seq r.slot.first_ts [] r.sending
sent_more grows k (x ∷ xs) r =
    let more = grows k x.slot.first_seq x.slot.first_ts (sendings (x ∷ xs)) r.sending in (
      more.0,
      more.1,
      ap (λ fs. packets_of k x.slot.first_seq x.slot.first_ts fs) (map_push (λ (y : Routed). y.sending) (x ∷ xs) r)
          ∙ more.2,
    )

-- what comes behind is what an item adds
behind : (k : ℕ) (before : List Visit) (v : Visit) (more : List SentPacket)
    → packets k (before ++ v ∷ []) ≡ packets k before ++ more → packets_at k before v ≡ more
behind k before v more e =
    ap (drop (length (packets k before))) e ∙ drop_at (packets k before) more (length (packets k before)) refl

-- an item that brings a stream a frame adds all its packets
pub whole_at : Grows → (k : ℕ) (before : List Visit) (v : Visit) (r : Routed) → routed_at k v ≡ Some r
    → (number : ℕ) × (ts : ℕ) × (packets k (before ++ v ∷ []) ≡ packets k before ++ frame_packets k number ts r.sending)
    × (packets_at k before v ≡ frame_packets k number ts r.sending)
whole_at grows k before v r at =
    let m = sent_more grows k (routed k before) r in
    let e = ap (packets_sent k) (routed-more k before v ∙ ap (λ o. routed k before ++ cons_option o []) at) ∙ m.2 in
    (m.0, m.1, e, behind k before v (frame_packets k m.0 m.1 r.sending) e)

pub packets-more : Grows → (k : ℕ) (before : List Visit) (v : Visit)
    → packets k (before ++ v ∷ []) ≡ packets k before ++ packets_at k before v
packets-more grows k before v = go (routed_at k v) refl
  where
    go : (o : Option Routed) → routed_at k v ≡ o
        → packets k (before ++ v ∷ []) ≡ packets k before ++ packets_at k before v
    go None e =
        ap (packets_sent k) (not_routed k before v e)
        ∙ sym (append-nil (packets k before))
        ∙ ap (λ ps. packets k before ++ ps) (sym (nothing_at k before v e))
    go (Some r) e = let w = whole_at grows k before v r e in w.2 ∙ ap (λ ps. packets k before ++ ps) (sym w.3)

-- what holds of frames and desks below
pub record Below : Type 0 where
  pub grows : Grows
  pub found : (d : Desk) (f : SourceFrame) → good d ≡ true → AreFound d f

abbrev video : ℕ → Name
video ssrc = record { kind = StreamKind.video; ssrc = ssrc }

module _ (below : Below) (who : Asker) (count k : ℕ) (start : Desk) where
  -- the stream's packets after these steps
  abbrev told : List Step → List Sent
  told before = map (goes k None) (packets k (visits (k % count) start before))

  -- an item that brings the stream nothing
  told-still : (before : List Step) (lane : ℕ) (input : Input)
      → routed_at k (visit_after start before lane input) ≡ None
      → told before ++ [] ≡ told (before ++ Step.item lane input ∷ [])
  told-still before lane input none =
      append-nil (told before)
      ∙ ap (map (goes k None))
      (elim (cases_eq lane (k % count)) [
        | inl same ↦
            sym (subst
            (λ j. packets k (visits j start (before ++ Step.item lane input ∷ [])) ≡ packets k (visits j start before))
            same
            (ap (packets k) (visits-mine lane start before input)
            ∙ ap (packets_sent k) (not_routed k (visits lane start before) (visit_after start before lane input) none)))
        | inr other ↦ sym (ap (packets k) (visits-other (k % count) lane start before input other))
      ])

  told-item : (before : List Step) (lane : ℕ) (input : Input) → good (desk_of start before) ≡ true
      → told before ++ firsts_at who count start (video k) before (Step.item lane input)
      ≡ told (before ++ Step.item lane input ∷ [])
  told-item before lane (Input.audio sound) h = told-still before lane (Input.audio sound) refl
  told-item before lane (Input.tick moment) h = told-still before lane (Input.tick moment) refl
  told-item before lane (Input.nack request) h = told-still before lane (Input.nack request) refl
  told-item before lane (Input.block told) h = told-still before lane (Input.block told) refl
  told-item before lane (Input.pli loss) h = told-still before lane (Input.pli loss) refl
  told-item before lane (Input.report moment) h = told-still before lane (Input.report moment) refl
  told-item before lane Input.renew h = told-still before lane Input.renew refl
  told-item before lane (Input.frame f) h =
      let input = Input.frame f in
      let v = visit_after start before lane input in
      let here = visits lane start before in
      ap (λ es. told before ++ es) (on_of_lane who k lane count (version_of before) (items_given lane before + 1)
      (desk_of start before) f here (below.found (desk_of start before) f h))
      ∙ (elim (cases_eq lane (k % count)) [
        | inl same ↦
            let mine : is_mine lane count k ≡ true = grind (arith, nat_tests) in
            ap (λ b. told before ++ cond b (map (goes k None) (packets_at k here v)) []) mine
            ∙ subst
            (λ j.
            map (goes k None) (packets k (visits j start before)) ++ map (goes k None) (packets_at k here v)
            ≡ map (goes k None) (packets k (visits j start (before ++ Step.item lane input ∷ []))))
            same
            (sym (map-append (goes k None) (packets k here) (packets_at k here v))
            ∙ ap (map (goes k None))
            (sym (packets-more below.grows k here v) ∙ ap (packets k) (sym (visits-mine lane start before input))))
        | inr other ↦
            let not : is_mine lane count k ≡ false = grind (arith, nat_tests) in
            ap (λ b. told before ++ cond b (map (goes k None) (packets_at k here v)) []) not
            ∙ append-nil (told before)
            ∙ ap (λ vs. map (goes k None) (packets k vs)) (sym (visits-other (k % count) lane start before input other))
      ])

  -- the packets so far, and those that the steps add
  told-along : (before steps : List Step) → good (desk_of start before) ≡ true → AllByRecursion IsGood steps
      → told before ++ along (firsts_at who count start (video k)) before steps ≡ told (before ++ steps)
  told-along before [] h all = append-nil (told before) ∙ ap told (sym (append-nil before))
  told-along before (Step.publish next ∷ steps) h all =
      let after = before ++ Step.publish next ∷ [] in
      let same : told after ≡ told before =
      ap (λ vs. map (goes k None) (packets k vs)) (visits-publish (k % count) start before next) in
      ap (λ es. es ++ along (firsts_at who count start (video k)) after steps) (sym same)
      ∙ told-along after steps (ap good (desk_of-publish start before next) ∙ all.0) all.1
      ∙ ap told (append_assoc before (Step.publish next ∷ []) steps)
  told-along before (Step.item lane input ∷ steps) h all =
      let after = before ++ Step.item lane input ∷ [] in
      let rest = along (firsts_at who count start (video k)) after steps in
      sym (append_assoc (told before) (firsts_at who count start (video k) before (Step.item lane input)) rest)
      ∙ ap (λ es. es ++ rest) (told-item before lane input h)
      ∙ told-along after steps (ap good (desk_of-item start before lane input) ∙ h) all.1
      ∙ ap told (append_assoc before (Step.item lane input ∷ []) steps)

  pub routed_list : (steps : List Step) → good start ≡ true → AllByRecursion IsGood steps
      → firsts who count start (video k) steps ≡ told steps
  routed_list steps h all = told-along [] steps h all

-- packets in a row have numbers in a row
follow_on : (k n : ℕ) (p : SentPacket) (ps : List SentPacket) → GoOn p.number ps
    → FollowOn p.number (numbers (map (goes k None) ps))
follow_on k n p [] h = tt
follow_on k n p (q ∷ ps) h = (h.0, follow_on k n q ps h.1)

pub no_gap : (k : ℕ) (ps : List SentPacket) → AreInARow ps → HaveNoGap (numbers (map (goes k None) ps))
no_gap k [] h = tt
no_gap k (p ∷ ps) h = follow_on k 0 p ps h

sent_in_a_row :
    ((ssrc first_seq first_ts : ℕ) (sendings : List Sending) → AreInARow (packets_of ssrc first_seq first_ts sendings))
    → (k : ℕ) (rs : List Routed) → AreInARow (packets_sent k rs)
sent_in_a_row row k [] = tt
sent_in_a_row row k (r ∷ rs) = row k r.slot.first_seq r.slot.first_ts (sendings (r ∷ rs))

pub no_video_gap : (who : Asker) (count : ℕ) (start : Desk) (steps : List Step) (ssrc : ℕ)
    → firsts who count start (video ssrc) steps
    ≡ map (goes ssrc None) (packets ssrc (visits (ssrc % count) start steps))
    → ((ssrc first_seq first_ts : ℕ) (sendings : List Sending)
    → AreInARow (packets_of ssrc first_seq first_ts sendings))
    → HaveNoGap (numbers (firsts who count start (video ssrc) steps))
no_video_gap who count start steps ssrc lists row =
    let all = visits (ssrc % count) start steps in
    subst (λ es. HaveNoGap (numbers es)) (sym lists)
    (no_gap ssrc (packets ssrc all) (sent_in_a_row row ssrc (routed ssrc all)))
