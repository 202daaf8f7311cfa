-- What a stream's packets carry.
use Rattle.std.proofs.Common.{◌≡◌, ℕ, ◌+◌, zero, suc, List, [], ◌∷◌, map, Option, Some, None, refl, sym, subst, arith}
use Rattle.std.specs.Prelude.{option_map}
use Rattle.std.specs.List.{cons_option, AllByRecursion, Contains}
use Rattle.std.proofs.lemmas.List.Elements.{Contains-append_right}
use Rattle.frame_gate.specs.Frame.{SourcePacket}
use Rattle.topology.specs.declared.receivers.Receiver.{Receiver}
use Rattle.topology.specs.Receivers.{receiver_on}
use Rattle.media_items.specs.Inputs.{Input}
use Rattle.forward_rewrite.specs.Sending.{Sending}
use Rattle.forward_rewrite.specs.Timestamps.{Stamped, stamped}
use Rattle.forward_rewrite.specs.RoutedList.{Part, part_of, parts, numbered}
use Rattle.bridge_core.specs.Lanes.{Visit, Routed, routed_to, routed_of, routed_at, routed, sendings, packets_sent}
use Rattle.bridge_core.specs.Lanes.{packets}
use Rattle.bridge_core.specs.Headline.{Carries}
use Rattle.bridge_core.proofs.Chosen.{all-append}

pub element : {X : Type 0} (P : X → Type 0) (xs : List X) (x : X) → AllByRecursion P xs → Contains xs x → P x
element P [] x all found = absurd (omega (arith, found.1))
element P (y ∷ ys) x all (zero, low, is) = subst P is all.0
element P (y ∷ ys) x all (suc k, low, is) = element P ys x all.1 (k, omega (arith, low), is)

-- the frames under whatever timestamps are the frames
abbrev pub AllStamped : Type 0
AllStamped = (first_ts : ℕ) (ss : List Sending) → map (λ (s : Stamped). s.sending) (stamped first_ts ss) ≡ ss

module _ (k : ℕ) (visits : List Visit) where
  -- the frame was given at one of the visits
  record IsGiven (s : Sending) : Type 0 where
    pub visit : Visit
    pub handled : Contains visits visit
    pub version : s.version ≡ visit.version
    pub item : s.item ≡ visit.item
    pub input : visit.input ≡ Input.frame s.frame

  -- the part is a packet of a frame that was given
  record IsOfGiven (part : Part) : Type 0 where
    pub given : IsGiven part.sending
    pub of_frame : Contains part.sending.frame.frame.packets part.packet

  by_input : (v : Visit) → Contains visits v → (r : Routed) (input : Input) → v.input ≡ input
      → routed_of k v input ≡ Some r → IsGiven r.sending
  by_input v there r (Input.frame f) is e = by (receiver_on v.desk f.source f.address k) e
    where
      by : (o : Option Receiver) → option_map (routed_to v f) o ≡ Some r → IsGiven r.sending
      by None e = absurd (cc)
      by (Some to) e =
          let same : routed_to v f to ≡ r = cc in
          subst (λ (r : Routed). IsGiven r.sending) same
          record { visit = v; handled = there; version = refl; item = refl; input = is }
  by_input v there r (Input.audio sound) is e = absurd (cc)
  by_input v there r (Input.tick moment) is e = absurd (cc)
  by_input v there r (Input.nack request) is e = absurd (cc)
  by_input v there r (Input.block told) is e = absurd (cc)
  by_input v there r (Input.pli loss) is e = absurd (cc)
  by_input v there r (Input.report moment) is e = absurd (cc)
  by_input v there r Input.renew is e = absurd (cc)

  -- what the visits bring to the stream is frames that were given
  all_given : (vs : List Visit) → ((v : Visit) → Contains vs v → Contains visits v)
      → AllByRecursion IsGiven (sendings (routed k vs))
  all_given [] there = tt
  all_given (v ∷ vs) there =
      by (routed_at k v) refl (all_given vs (λ w h. there w (Contains-append_right (v ∷ []) vs w h)))
    where
      by : (o : Option Routed) → routed_at k v ≡ o → AllByRecursion IsGiven (sendings (routed k vs))
          → AllByRecursion IsGiven (sendings (cons_option o (routed k vs)))
      by None e rest = rest
      by (Some r) e rest = (by_input v (there v (0, omega arith, refl)) r v.input refl e, rest)

  stamped_given : (ss : List Stamped) → AllByRecursion IsGiven (map (λ (s : Stamped). s.sending) ss)
      → AllByRecursion (λ (s : Stamped). IsGiven s.sending) ss
  stamped_given [] all = tt
  stamped_given (s ∷ ss) all = (all.0, stamped_given ss all.1)

  of_one : (s : Stamped) → IsGiven s.sending → (ps : List SourcePacket)
      → ((p : SourcePacket) → Contains ps p → Contains s.sending.frame.frame.packets p)
      → AllByRecursion IsOfGiven (map (part_of s) ps)
  of_one s given [] there = tt
  of_one s given (p ∷ ps) there = (
    record { given = given; of_frame = there p (0, omega arith, refl) },
    of_one s given ps (λ q h. there q (Contains-append_right (p ∷ []) ps q h)),
  )

  of_all : (ss : List Stamped) → AllByRecursion (λ (s : Stamped). IsGiven s.sending) ss
      → AllByRecursion IsOfGiven (parts ss)
  of_all [] all = tt
  of_all (s ∷ ss) all =
      all-append IsOfGiven (map (part_of s) s.sending.frame.frame.packets) (parts ss)
      (of_one s all.0 s.sending.frame.frame.packets (λ p h. h)) (of_all ss all.1)

  all_numbered : (n : ℕ) (ps : List Part) → AllByRecursion IsOfGiven ps
      → AllByRecursion (Carries k visits) (numbered k n ps)
  all_numbered n [] all = tt
  all_numbered n (part ∷ ps) all = (
    record {
      visit = all.0.given.visit;
      handled = all.0.given.handled;
      version = all.0.given.version;
      item = all.0.given.item;
      f = part.sending.frame;
      input = all.0.given.input;
      source = refl;
      address = refl;
      epoch = refl;
      carried = part.packet;
      of_frame = all.0.of_frame;
      ext = refl;
      ts = part.ts;
      bytes = refl;
    },
    all_numbered (n + 1) ps all.1,
  )

  all_sent : AllStamped → (rs : List Routed) → AllByRecursion IsGiven (sendings rs)
      → AllByRecursion (Carries k visits) (packets_sent k rs)
  all_sent same [] all = tt
  all_sent same (r ∷ rs) all =
      let frames = stamped r.slot.first_ts (sendings (r ∷ rs)) in
      all_numbered r.slot.first_seq (parts frames) (of_all frames
      (stamped_given frames (subst (AllByRecursion IsGiven) (sym (same r.slot.first_ts (sendings (r ∷ rs)))) all)))

  -- each packet of a stream carries a packet of a frame that was given
  pub all_carry : AllStamped → AllByRecursion (Carries k visits) (packets k visits)
  all_carry same = all_sent same (routed k visits) (all_given visits (λ v h. h))
