-- To whom a stream's packets went: the member of its slot, by the desk of their version.
use Rattle.std.proofs.Common.{◌≡◌, ℕ, ◌+◌, Bool, true, false, cond, List, [], ◌∷◌, map, Option, Some, None}
use Rattle.std.proofs.Common.{refl, sym, ap, subst, ◌∙◌, arith}
use Rattle.std.specs.Prelude.{option_map}
use Rattle.std.specs.Option.{option_and_then}
use Rattle.std.specs.List.{cons_option, AllByRecursion, Contains}
use Rattle.std.proofs.lemmas.List.Elements.{Contains-append_right}
use Rattle.rtp_codec.specs.declared.address.Address.{Address}
use Rattle.desk_rows.specs.declared.row.Member.{Member as MemberRow}
use Rattle.desk_rows.specs.declared.row.Slot.{Slot as SlotRow}
use Rattle.desk_rows.specs.Desk.{Desk}
use Rattle.desk_rows.specs.Getters.{slot_at, member_at}
use Rattle.frame_gate.specs.Frame.{SourcePacket}
use Rattle.retransmit.specs.SentPacket.{SentPacket}
use Rattle.topology.specs.declared.receivers.Receiver.{Receiver}
use Rattle.topology.specs.Looking.{comes_from}
use Rattle.topology.proofs.KindRows.{slot_row}
use Rattle.topology.specs.Receivers.{receiver, receiver_on, receiving, chooses}
use Rattle.media_items.specs.Inputs.{Input}
use Rattle.forward_rewrite.specs.Sending.{Sending}
use Rattle.forward_rewrite.specs.Timestamps.{Stamped, stamped}
use Rattle.forward_rewrite.specs.RoutedList.{Part, part_of, parts, numbered}
use Rattle.bridge_core.specs.Lanes.{Visit, Routed, routed_to, routed_of, routed_at, routed, sendings, packets_sent}
use Rattle.bridge_core.specs.Lanes.{packets}
use Rattle.bridge_core.proofs.Chosen.{all-append}
use Rattle.bridge_core.proofs.Carried.{AllStamped}
use Rattle.plain_laws.specs.SentAgain.{member_of_slot}

either : {X : Type 0} (b : Bool) (o : Option X) (x : X) → cond b o None ≡ Some x → o ≡ Some x
either true o x e = e
either false o x e = absurd (cc)

-- a receiver has the slot that it was found by
slot_is : (slot : SlotRow) (o : Option MemberRow) (r : Receiver)
    → option_map (λ (m : MemberRow). receiver m slot) o ≡ Some r → slot.member ≡ r.slot.member
slot_is slot None r e = absurd (cc)
slot_is slot (Some m) r e = let same : receiver m slot ≡ r = cc in ap (λ (r : Receiver). r.slot.member) same

slot_member : (d : Desk) (source : ℕ) (o : Option SlotRow) (r : Receiver)
    → option_and_then (receiving d source) o ≡ Some r
    → option_map (λ (s : SlotRow). s.member) o ≡ Some r.slot.member
slot_member d source None r e = absurd (cc)
slot_member d source (Some slot) r e =
    ap Some (slot_is slot (member_at d slot.member) r (either (chooses d source slot) _ r e))

-- the stream's slot is the receiver's member's
reached_member : (d : Desk) (source : ℕ) (address : Address) (k : ℕ) (r : Receiver)
    → receiver_on d source address k ≡ Some r → member_of_slot d k ≡ Some r.slot.member
reached_member d source address k r e =
    ap (option_map (λ (s : SlotRow). s.member)) (sym (slot_row d k))
    ∙ slot_member d source (slot_at d k) r (either (comes_from d source address) _ r e)

module _ (k : ℕ) (visits : List Visit) where
  -- the frame was given at one of the visits, and goes to the member whose slot has the stream by its desk
  record GoesToSlot (s : Sending) : Type 0 where
    pub visit : Visit
    pub handled : Contains visits visit
    pub version : s.version ≡ visit.version
    pub slot : member_of_slot visit.desk k ≡ Some s.owner.member

  -- so does the packet
  pub record WentToSlot (p : SentPacket) : Type 0 where
    pub visit : Visit
    pub handled : Contains visits visit
    pub version : p.version ≡ visit.version
    pub slot : member_of_slot visit.desk k ≡ Some p.owner.member

  by_input : (v : Visit) → Contains visits v → (r : Routed) (input : Input) → routed_of k v input ≡ Some r
      → GoesToSlot r.sending
  by_input v there r (Input.frame f) e = by (receiver_on v.desk f.source f.address k) refl e
    where
      by : (o : Option Receiver) → receiver_on v.desk f.source f.address k ≡ o
          → option_map (routed_to v f) o ≡ Some r → GoesToSlot r.sending
      by None at e = absurd (cc)
      by (Some to) at e =
          let same : routed_to v f to ≡ r = cc in
          subst (λ (r : Routed). GoesToSlot r.sending) same
          record {
            visit = v;
            handled = there;
            version = refl;
            slot = reached_member v.desk f.source f.address k to at;
          }
  by_input v there r (Input.audio sound) e = absurd (cc)
  by_input v there r (Input.tick moment) e = absurd (cc)
  by_input v there r (Input.nack request) e = absurd (cc)
  by_input v there r (Input.block told) e = absurd (cc)
  by_input v there r (Input.pli loss) e = absurd (cc)
  by_input v there r (Input.report moment) e = absurd (cc)
  by_input v there r Input.renew e = absurd (cc)

  all_given : (vs : List Visit) → ((v : Visit) → Contains vs v → Contains visits v)
      → AllByRecursion GoesToSlot (sendings (routed k vs))
  all_given [] there = tt
  all_given (v ∷ vs) there =
      by (routed_at k v) refl (all_given vs (λ w h. there w (Contains-append_right (v ∷ []) vs w h)))
    where
      by : (o : Option Routed) → routed_at k v ≡ o → AllByRecursion GoesToSlot (sendings (routed k vs))
          → AllByRecursion GoesToSlot (sendings (cons_option o (routed k vs)))
      by None e rest = rest
      by (Some r) e rest = (by_input v (there v (0, omega arith, refl)) r v.input e, rest)

  stamped_given : (ss : List Stamped) → AllByRecursion GoesToSlot (map (λ (s : Stamped). s.sending) ss)
      → AllByRecursion (λ (s : Stamped). GoesToSlot s.sending) ss
  stamped_given [] all = tt
  stamped_given (s ∷ ss) all = (all.0, stamped_given ss all.1)

  of_one : (s : Stamped) → GoesToSlot s.sending → (ps : List SourcePacket)
      → AllByRecursion (λ (part : Part). GoesToSlot part.sending) (map (part_of s) ps)
  of_one s goes [] = tt
  of_one s goes (p ∷ ps) = (goes, of_one s goes ps)

  of_all : (ss : List Stamped) → AllByRecursion (λ (s : Stamped). GoesToSlot s.sending) ss
      → AllByRecursion (λ (part : Part). GoesToSlot part.sending) (parts ss)
  of_all [] all = tt
  of_all (s ∷ ss) all =
      all-append (λ (part : Part). GoesToSlot part.sending) (map (part_of s) s.sending.frame.frame.packets) (parts ss)
      (of_one s all.0 s.sending.frame.frame.packets) (of_all ss all.1)

  all_numbered : (n : ℕ) (ps : List Part) → AllByRecursion (λ (part : Part). GoesToSlot part.sending) ps
      → AllByRecursion WentToSlot (numbered k n ps)
  all_numbered n [] all = tt
  all_numbered n (part ∷ ps) all = (
    record { visit = all.0.visit; handled = all.0.handled; version = all.0.version; slot = all.0.slot },
    all_numbered (n + 1) ps all.1,
  )

  all_sent : AllStamped → (rs : List Routed) → AllByRecursion GoesToSlot (sendings rs)
      → AllByRecursion WentToSlot (packets_sent k rs)
  all_sent same [] all = tt
  all_sent same (r ∷ rs) all =
      let frames = stamped r.slot.first_ts (sendings (r ∷ rs)) in
      all_numbered r.slot.first_seq (parts frames) (of_all frames
      (stamped_given frames
      (subst (AllByRecursion GoesToSlot) (sym (same r.slot.first_ts (sendings (r ∷ rs)))) all)))

  -- each packet of a stream went to the member of its slot
  pub all_went : AllStamped → AllByRecursion WentToSlot (packets k visits)
  all_went same = all_sent same (routed k visits) (all_given visits (λ v h. h))
