-- What an item sends on one stream.
use Rattle.std.proofs.Common.{◌≡◌, ℕ, Bool, true, false, cond, nat_eq, List, [], ◌∷◌, ◌++◌, length, map, drop, Option}
use Rattle.std.proofs.Common.{Some, None, refl, sym, ap, subst, ◌∙◌, arith, inl, inr, append-nil}
use Rattle.std.specs.Prelude.{filter, option_map}
use Rattle.std.specs.List.{flat_map}
use Rattle.std.proofs.lemmas.Bool.{cases_eq}
use Rattle.std.proofs.lemmas.Bool.Decides.{nat_tests}
use Rattle.std.proofs.lemmas.List.{drop_at}
use Rattle.std.proofs.lemmas.List.Elements.{filter-append}
use Rattle.desk_rows.specs.Desk.{Desk}
use Rattle.retransmit.specs.SentPacket.{SentPacket}
use Rattle.topology.specs.declared.receivers.Receiver.{Receiver}
use Rattle.topology.specs.Receivers.{receivers, receiver_on, receiver_at, AreDistinct}
use Rattle.media_items.specs.Frame.{SourceFrame}
use Rattle.media_items.specs.OwnStreams.{is_mine}
use Rattle.media_items.specs.Inputs.{Input}
use Rattle.sender_feedback.specs.Upstream.{Asker}
use Rattle.bridge_core.specs.Sent.{Sent, about}
use Rattle.bridge_core.specs.Lanes.{Visit, routed_at, routed_to, packets, packets_at, packets_sent, goes, is_lanes}
use Rattle.bridge_core.specs.Lanes.{sent_of_input, sends_at}
use Rattle.bridge_core.specs.LaneState.{visit_of}
use Rattle.bridge_core.specs.Named.{is_on}
use Rattle.bridge_core.proofs.Handled.{not_routed}

-- a list of which all pass a test or none
pub all_or_none : (test : Sent → Bool) (b : Bool) (j : ℕ) (again : Option ℕ)
    → ((p : SentPacket) → test (goes j again p) ≡ b) → (ps : List SentPacket)
    → filter test (map (goes j again) ps) ≡ cond b (map (goes j again) ps) []
all_or_none test true j again is [] = refl
all_or_none test false j again is [] = refl
all_or_none test true j again is (p ∷ ps) =
    ap (λ b. cond b (goes j again p ∷ filter test (map (goes j again) ps)) (filter test (map (goes j again) ps))) (is p)
    ∙ ap (λ es. goes j again p ∷ es) (all_or_none test true j again is ps)
all_or_none test false j again is (p ∷ ps) =
    ap (λ b. cond b (goes j again p ∷ filter test (map (goes j again) ps)) (filter test (map (goes j again) ps))) (is p)
    ∙ all_or_none test false j again is ps

abbrev pub on : ℕ → List Sent → List Sent
on k es = filter (is_on k) es

-- of a lane's share, a stream's packets are all that there are, or none
pub on_share : (k lane lanes : ℕ) (es : List Sent)
    → on k (filter (is_lanes lane lanes) es) ≡ cond (is_mine lane lanes k) (on k es) []
on_share k lane lanes [] =
    elim (is_mine lane lanes k) as (λ b. ◌≡◌ {A = List Sent} [] (cond b [] [])) [ true ↦ refl | false ↦ refl ]
on_share k lane lanes (e ∷ es) =
    let left = filter (is_lanes lane lanes) es in
    let rest = on_share k lane lanes es in
    elim (cases_eq (about e) k) [
      | inl same ↦
          let is : nat_eq (about e) k ≡ true = grind (arith, nat_tests) in
          ap (λ n. on k (cond (is_mine lane lanes n) (e ∷ left) left)) same
          ∙ (elim (is_mine lane lanes k)
          as (λ b. on k left ≡ cond b (on k es) [] → on k (cond b (e ∷ left) left) ≡ cond b (on k (e ∷ es)) []) [
            | true ↦ λ r.
                ap (λ b. cond b (e ∷ on k left) (on k left)) is
                ∙ ap (λ xs. e ∷ xs) r
                ∙ sym (ap (λ b. cond b (e ∷ on k es) (on k es)) is)
            | false ↦ λ r. r
          ]) rest
      | inr other ↦
          let not : nat_eq (about e) k ≡ false = grind (arith, nat_tests) in
          (elim (is_mine lane lanes (about e)) as (λ b. on k (cond b (e ∷ left) left) ≡ on k left) [
            | true ↦ ap (λ b. cond b (e ∷ on k left) (on k left)) not
            | false ↦ refl
          ])
          ∙ rest
          ∙ sym (ap (λ es. cond (is_mine lane lanes k) es []) (ap (λ b. cond b (e ∷ on k es) (on k es)) not))
    ]

-- what a receiver gets on a stream
abbrev given : ℕ → List Visit → Visit → Option Receiver → List Sent
given k before v None = []
given k before v (Some r) = map (goes k None) (packets_at k before v)

-- of what goes to receivers, a stream's packets are those to its receiver
filtered : (k : ℕ) (before : List Visit) (v : Visit) (rs : List Receiver) → AreDistinct rs
    → on k (flat_map (λ r. map (goes r.slot.out_ssrc None) (packets_at r.slot.out_ssrc before v)) rs)
    ≡ given k before v (receiver_at k rs)
filtered k before v [] d = refl
filtered k before v (r ∷ rs) d =
    let G = λ (r : Receiver). map (goes r.slot.out_ssrc None) (packets_at r.slot.out_ssrc before v) in
    let j = r.slot.out_ssrc in
    let rest = filtered k before v rs d.1 in
    filter-append (is_on k) (G r) (flat_map G rs)
    ∙ ap (λ es. es ++ on k (flat_map G rs))
    (all_or_none (is_on k) (nat_eq j k) j None (λ p. refl) (packets_at j before v))
    ∙ (elim (cases_eq j k) [
      | inl same ↦
          let is : nat_eq j k ≡ true = grind (arith, nat_tests) in
          let none : receiver_at k rs ≡ None = subst (λ m. receiver_at m rs ≡ None) same d.0 in
          ap (λ b. cond b (G r) [] ++ on k (flat_map G rs)) is
          ∙ ap (λ es. G r ++ es) (rest ∙ ap (given k before v) none)
          ∙ append-nil (G r)
          ∙ ap (λ n. map (goes n None) (packets_at n before v)) same
          ∙ sym (ap (λ b. given k before v (cond b (Some r) (receiver_at k rs))) is)
      | inr other ↦
          let not : nat_eq j k ≡ false = grind (arith, nat_tests) in
          ap (λ b. cond b (G r) [] ++ on k (flat_map G rs)) not
          ∙ rest
          ∙ sym (ap (λ b. given k before v (cond b (Some r) (receiver_at k rs))) not)
    ])

-- what holds of a desk's receivers: no two have one stream, and each stream's receiver is found
pub record AreFound (d : Desk) (source : SourceFrame) : Type 0 where
  pub apart : AreDistinct (receivers d source.source source.address)
  pub found : (k : ℕ)
      → receiver_at k (receivers d source.source source.address) ≡ receiver_on d source.source source.address k

-- nothing is added to a stream that is brought nothing
pub nothing_at : (k : ℕ) (before : List Visit) (v : Visit) → routed_at k v ≡ None → packets_at k before v ≡ []
nothing_at k before v none =
    ap (λ ps. drop (length (packets k before)) ps)
    (ap (packets_sent k) (not_routed k before v none) ∙ sym (append-nil (packets k before)))
    ∙ drop_at (packets k before) [] (length (packets k before)) refl

-- of what is sent of a frame, a stream's packets are those that the frame adds to it
pub on_of_frame : (who : Asker) (k version item : ℕ) (d : Desk) (f : SourceFrame) (before : List Visit) → AreFound d f
    → on k (sent_of_input who before (visit_of version item d (Input.frame f)) (Input.frame f))
    ≡ map (goes k None) (packets_at k before (visit_of version item d (Input.frame f)))
on_of_frame who k version item d f before is =
    let v = visit_of version item d (Input.frame f) in
    filtered k before v (receivers d f.source f.address) is.apart
    ∙ ap (given k before v) (is.found k)
    ∙ by (receiver_on d f.source f.address k) refl
  where
    by : (o : Option Receiver) → receiver_on d f.source f.address k ≡ o
        → given k before (visit_of version item d (Input.frame f)) o
        ≡ map (goes k None) (packets_at k before (visit_of version item d (Input.frame f)))
    by None e =
        ap (map (goes k None)) (sym (nothing_at k before (visit_of version item d (Input.frame f))
        (ap (option_map (routed_to (visit_of version item d (Input.frame f)) f)) e)))
    by (Some r) e = refl

-- and of what a lane sends of it, all of them if the stream is the lane's
pub on_of_lane : (who : Asker) (k lane lanes version item : ℕ) (d : Desk) (f : SourceFrame) (before : List Visit)
    → AreFound d f
    → on k (sends_at who lane lanes before (visit_of version item d (Input.frame f)))
    ≡ cond (is_mine lane lanes k) (map (goes k None) (packets_at k before (visit_of version item d (Input.frame f)))) []
on_of_lane who k lane lanes version item d f before is =
    let v = visit_of version item d (Input.frame f) in
    on_share k lane lanes (sent_of_input who before v (Input.frame f))
    ∙ ap (λ es. cond (is_mine lane lanes k) es []) (on_of_frame who k version item d f before is)
