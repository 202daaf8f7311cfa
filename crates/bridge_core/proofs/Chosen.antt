-- What is sent of a frame is chosen by the desk, and goes whole.
use Rattle.std.proofs.Common.{◌≡◌, ℕ, ◌+◌, Bool, true, false, cond, nat_eq, List, [], ◌∷◌, ◌++◌, map, Option, None}
use Rattle.std.proofs.Common.{Some, refl, sym, ap, subst, ◌∙◌, eqb-true}
use Rattle.std.specs.Prelude.{filter, option_map}
use Rattle.std.specs.Option.{option_and_then}
use Rattle.std.specs.List.{flat_map, AllByRecursion}
use Rattle.rtp_codec.specs.declared.address.Address.{Address}
use Rattle.desk_rows.specs.declared.row.Slot.{Slot as SlotRow}
use Rattle.desk_rows.specs.laws.Equal.{number_itself}
use Rattle.desk_rows.specs.Desk.{Desk, good}
use Rattle.topology.specs.declared.receivers.Receiver.{Receiver}
use Rattle.topology.specs.Looking.{slot_at, is_this, comes_from}
use Rattle.topology.specs.Choice.{choice, chosen}
use Rattle.topology.specs.Receivers.{receivers, receiver_at, receiving, receiver_on, chooses, AreDistinct}
use Rattle.media_items.specs.Frame.{SourceFrame}
use Rattle.forward_rewrite.specs.RoutedList.{part_of, numbered}
use Rattle.frame_gate.specs.Frame.{SourcePacket}
use Rattle.media_items.specs.OwnStreams.{is_mine}
use Rattle.media_items.specs.Inputs.{Input}
use Rattle.sender_feedback.specs.Upstream.{Asker}
use Rattle.bridge_core.specs.Lanes.{Visit, routed_to, packets_at, goes, is_lanes, sends_at}
use Rattle.bridge_core.specs.LaneState.{visit_of}
use Rattle.bridge_core.specs.Headline.{IsChosenOf, GoesWhole}
use Rattle.bridge_core.proofs.OnStreams.{on, AreFound, on_of_lane}
use Rattle.bridge_core.proofs.RoutedLists.{Below, whole_at}

-- ---- who is reached

either : {X : Type 0} (b : Bool) (o : Option X) (x : X) → cond b o None ≡ Some x → (b ≡ true) × (o ≡ Some x)
either true o x e = (refl, e)
either false o x e = absurd (cc)

number_is : (o : Option ℕ) (n : ℕ) → is_this n o ≡ true → o ≡ Some n
number_is None n e = absurd (cc)
number_is (Some m) n e = ap Some (eqb-true m n e)

slot_chose : (d : Desk) (source : ℕ) (o : Option SlotRow) (r : Receiver)
    → option_and_then (receiving d source) o ≡ Some r → option_and_then (chosen d) o ≡ Some source
slot_chose d source None r e = absurd (cc)
slot_chose d source (Some slot) r e = number_is (chosen d slot) source (either (chooses d source slot) _ r e).0

-- the stream of a receiver chose the source, which is at the address
pub reached : (d : Desk) (source : ℕ) (address : Address) (k : ℕ) (r : Receiver)
    → receiver_on d source address k ≡ Some r → (comes_from d source address ≡ true) × (choice d k ≡ Some source)
reached d source address k r e =
    let both = either (comes_from d source address) (option_and_then (receiving d source) (slot_at d k)) r e in
    (both.0, slot_chose d source (slot_at d k) r both.1)

-- what is found behind another one
behind : (k : ℕ) (q r : Receiver) (rs : List Receiver) → receiver_at q.slot.out_ssrc rs ≡ None
    → receiver_at k rs ≡ Some r → receiver_at k (q ∷ rs) ≡ Some r
behind k q r rs none found = by (nat_eq q.slot.out_ssrc k) refl
  where
    by : (b : Bool) → nat_eq q.slot.out_ssrc k ≡ b → cond b (Some q) (receiver_at k rs) ≡ Some r
    by true e =
        absurd (let same : q.slot.out_ssrc ≡ k = eqb-true q.slot.out_ssrc k e in
        let gone : receiver_at k rs ≡ None = ap (λ n. receiver_at n rs) (sym same) ∙ none in cc)
    by false e = found

all_behind : (q : Receiver) (rs some : List Receiver) → receiver_at q.slot.out_ssrc rs ≡ None
    → AllByRecursion (λ (r : Receiver). receiver_at r.slot.out_ssrc rs ≡ Some r) some
    → AllByRecursion (λ (r : Receiver). receiver_at r.slot.out_ssrc (q ∷ rs) ≡ Some r) some
all_behind q rs [] none h = tt
all_behind q rs (r ∷ some) none h = (behind r.slot.out_ssrc q r rs none h.0, all_behind q rs some none h.1)

-- receivers that are apart are found by their SSRCs
all_found : (rs : List Receiver) → AreDistinct rs
    → AllByRecursion (λ (r : Receiver). receiver_at r.slot.out_ssrc rs ≡ Some r) rs
all_found [] d = tt
all_found (r ∷ rs) d = (
  ap (λ b. cond b (Some r) (receiver_at r.slot.out_ssrc rs)) (number_itself r.slot.out_ssrc),
  all_behind r rs rs d.0 (all_found rs d.1),
)

abbrev IsReceiver : Desk → SourceFrame → Receiver → Type 0
IsReceiver d f r = receiver_on d f.source f.address r.slot.out_ssrc ≡ Some r

all_on : (d : Desk) (f : SourceFrame) → AreFound d f → (rs : List Receiver)
    → AllByRecursion (λ (r : Receiver). receiver_at r.slot.out_ssrc (receivers d f.source f.address) ≡ Some r) rs
    → AllByRecursion (IsReceiver d f) rs
all_on d f is [] all = tt
all_on d f is (r ∷ rs) all = (sym (is.found r.slot.out_ssrc) ∙ all.0, all_on d f is rs all.1)

-- ---- lists

pub all-append : {X : Type 0} (P : X → Type 0) (xs ys : List X) → AllByRecursion P xs → AllByRecursion P ys
    → AllByRecursion P (xs ++ ys)
all-append P [] ys h k = k
all-append P (x ∷ xs) ys h k = (h.0, all-append P xs ys h.1 k)

pub all-filter : {X : Type 0} (P : X → Type 0) (p : X → Bool) (xs : List X) → AllByRecursion P xs
    → AllByRecursion P (filter p xs)
all-filter P p [] h = tt
all-filter P p (x ∷ xs) h =
    let rest = all-filter P p xs h.1 in
    elim (p x) as (λ b. AllByRecursion P (cond b (x ∷ filter p xs) (filter p xs))) [ true ↦ (h.0, rest) | false ↦ rest ]

-- ---- packets

module _ (version item : ℕ) (d : Desk) (f : SourceFrame) (below : Below) (before : List Visit) (h : good d ≡ true) where
  abbrev visit : Visit
  visit = visit_of version item d (Input.frame f)

  -- the packets of the frame that go to a receiver are chosen
  each_part : (k number ts : ℕ) (r : Receiver) → receiver_on d f.source f.address k ≡ Some r → (ps : List SourcePacket)
      → AllByRecursion (IsChosenOf visit f) (map (goes k None)
      (numbered k number (map (part_of record { sending = (routed_to visit f r).sending; ts = ts }) ps)))
  each_part k number ts r at [] = tt
  each_part k number ts r at (p ∷ ps) =
      let both = reached d f.source f.address k r at in (
        record {
          version = refl;
          item = refl;
          first = refl;
          choice = both.1;
          from = both.0;
          to = ap (option_map (λ (r : Receiver). r.address)) at;
        },
        each_part k (number + 1) ts r at ps,
      )

  each_receiver : (rs : List Receiver) → AllByRecursion (IsReceiver d f) rs
      → AllByRecursion (IsChosenOf visit f)
      (flat_map (λ r. map (goes r.slot.out_ssrc None) (packets_at r.slot.out_ssrc before visit)) rs)
  each_receiver [] all = tt
  each_receiver (r ∷ rs) all =
      let k = r.slot.out_ssrc in
      let whole =
      whole_at below.grows k before visit (routed_to visit f r) (ap (option_map (routed_to visit f)) all.0) in
      let G = λ (r : Receiver). map (goes r.slot.out_ssrc None) (packets_at r.slot.out_ssrc before visit) in
      all-append (IsChosenOf visit f) (G r) (flat_map G rs)
      (subst (λ ps. AllByRecursion (IsChosenOf visit f) (map (goes k None) ps)) (sym whole.3)
      (each_part k whole.0 whole.1 r all.0 f.frame.packets))
      (each_receiver rs all.1)

  pub all_chosen : (who : Asker) (lane lanes : ℕ)
      → AllByRecursion (IsChosenOf visit f) (sends_at who lane lanes before visit)
  all_chosen who lane lanes =
      let is = below.found d f h in
      let all = receivers d f.source f.address in
      all-filter (IsChosenOf visit f) (is_lanes lane lanes)
      (flat_map (λ r. map (goes r.slot.out_ssrc None) (packets_at r.slot.out_ssrc before visit)) all)
      (each_receiver all (all_on d f is all (all_found all is.apart)))

  pub goes_whole : (who : Asker) (lane lanes k : ℕ) (r : Receiver) → is_mine lane lanes k ≡ true
      → receiver_on d f.source f.address k ≡ Some r
      → GoesWhole k (routed_to visit f r).sending (on k (sends_at who lane lanes before visit))
  goes_whole who lane lanes k r mine at =
      let whole = whole_at below.grows k before visit (routed_to visit f r) (ap (option_map (routed_to visit f)) at) in
      record {
        number = whole.0;
        ts = whole.1;
        whole =
            on_of_lane who k lane lanes version item d f before (below.found d f h)
            ∙ ap (λ b. cond b (map (goes k None) (packets_at k before visit)) []) mine
            ∙ ap (map (goes k None)) whole.3;
      }
